pub mod Starts
pub mod Points
