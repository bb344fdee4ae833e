pub mod Machine
pub mod Ending
pub mod Performs
pub mod Simulation
