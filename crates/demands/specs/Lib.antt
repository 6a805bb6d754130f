pub mod Returned
pub mod Readers
pub mod Demands
pub mod Cases
pub mod Wrong
pub mod Kept
