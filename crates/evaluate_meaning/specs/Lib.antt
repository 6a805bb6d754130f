pub mod Answer
pub mod Colour
pub mod Evaluate
pub mod Corners
pub mod Calls
pub mod Cases
