pub mod Channels
pub mod Axed
pub mod Pixels
pub mod Judging
pub mod Rowing
