pub mod Layout
pub mod Parts
pub mod Answer
pub mod Abm
pub mod Lut
pub mod Standard
pub mod Cases
