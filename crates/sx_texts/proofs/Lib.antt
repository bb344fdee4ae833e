pub mod Gives
pub mod Trees
pub mod Least
pub mod Readings
pub mod SameTrees
pub mod Answers
pub mod Placed
