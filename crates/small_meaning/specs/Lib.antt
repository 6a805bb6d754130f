pub mod Answer
pub mod Order
pub mod Layout
pub mod Small
pub mod Readers
pub mod Standard
pub mod Cases
