pub mod Places
pub mod Functions
pub mod Accessors
