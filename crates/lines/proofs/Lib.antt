pub mod Writing
pub mod Digits
pub mod Laws
pub mod Size
pub mod Unique
