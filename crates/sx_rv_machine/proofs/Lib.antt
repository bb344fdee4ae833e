pub mod Steps
pub mod Puts
pub mod Areas
pub mod Places
