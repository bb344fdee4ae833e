pub mod Steps
pub mod Laws
pub mod Blocks
pub mod Simulate
