pub mod Bytes
pub mod Tag
pub mod Place
pub mod Some
pub mod Refusals
pub mod Checked
pub mod House
pub mod Cases
