pub mod Agree
pub mod Least
pub mod Placed
