pub mod Rows
pub mod Telling
