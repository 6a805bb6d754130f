pub mod Unique
pub mod Any
pub mod Solid
pub mod Shows
pub mod Cases
pub mod Conforms
