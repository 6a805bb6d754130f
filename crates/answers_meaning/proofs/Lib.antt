pub mod Marks
pub mod Unique
pub mod Cases
pub mod Room
