pub mod Judge
pub mod Deeper
pub mod Arguments
pub mod Steps
