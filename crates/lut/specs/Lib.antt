pub mod Verdict
pub mod Runs
pub mod Passed
