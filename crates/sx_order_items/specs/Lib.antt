pub mod Counts
pub mod Starts
pub mod Stops
pub mod Written
pub mod Below
pub mod Laws
