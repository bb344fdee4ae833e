pub mod Statements
pub mod Literals
