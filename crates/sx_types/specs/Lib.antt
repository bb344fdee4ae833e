pub mod Functions
pub mod Same
pub mod Words
