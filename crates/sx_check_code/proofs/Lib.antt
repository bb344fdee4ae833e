pub mod Tells
pub mod Ordered
pub mod Same
