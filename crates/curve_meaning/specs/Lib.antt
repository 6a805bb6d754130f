pub mod Layout
pub mod Shape
pub mod Kinds
pub mod Answer
pub mod Curve
pub mod Standard
pub mod Cases
