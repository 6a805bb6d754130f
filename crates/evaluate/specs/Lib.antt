pub mod Corners
pub mod Parts
