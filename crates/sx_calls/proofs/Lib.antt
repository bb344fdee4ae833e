pub mod Given
pub mod Stops
