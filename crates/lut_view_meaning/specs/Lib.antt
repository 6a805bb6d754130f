pub mod Answer
pub mod View
pub mod Standard
pub mod Cases
