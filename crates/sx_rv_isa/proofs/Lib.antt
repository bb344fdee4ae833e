pub mod Ranges
pub mod Pack
pub mod TableRows
pub mod Back
pub mod Forth
