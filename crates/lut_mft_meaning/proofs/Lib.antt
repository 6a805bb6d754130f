pub mod Unique
pub mod Laid
pub mod Inside
pub mod Refuses
pub mod More
pub mod Cases
pub mod Conforms
