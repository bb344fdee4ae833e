pub mod Memory
pub mod State
pub mod Load
pub mod Step
pub mod Run
pub mod Put
pub mod Sizes
