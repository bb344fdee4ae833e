pub mod Text
pub mod Fronts
pub mod Answer
