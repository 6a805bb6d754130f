pub mod Table
pub mod Clut
pub mod Answer
pub mod Standard
pub mod Cases
