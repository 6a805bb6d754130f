pub mod Cases
pub mod Runs
pub mod Limit
pub mod Records
pub mod Writing
pub mod Conforms
