pub mod Layout
pub mod Answer
pub mod Mft
pub mod Standard
pub mod Cases
