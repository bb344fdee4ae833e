pub mod Holding
pub mod Measured
pub mod Searching
pub mod Walking
