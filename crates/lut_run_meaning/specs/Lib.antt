pub mod Run
pub mod Standard
pub mod Cases
