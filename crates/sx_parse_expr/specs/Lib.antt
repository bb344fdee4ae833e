pub mod Levels
pub mod Productions
pub mod Views
