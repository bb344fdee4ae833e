pub mod Within
pub mod Refused
pub mod Told
