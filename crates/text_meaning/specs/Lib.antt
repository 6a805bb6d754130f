pub mod Cut
pub mod Layout
pub mod Answer
pub mod Mluc
pub mod Text
pub mod Standard
pub mod Cases
