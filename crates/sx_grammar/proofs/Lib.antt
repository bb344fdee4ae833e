pub mod Bools
pub mod Beginnings
pub mod Steps
mod Progress
mod Runs
pub mod Fronts
mod Levels
mod Earliest
pub mod Table
mod Counts
pub mod Verdict
pub mod Equations
pub mod Suffixes
