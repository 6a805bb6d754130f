pub mod Text
pub mod Pixel
pub mod Line
pub mod Cases
