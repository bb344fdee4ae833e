pub mod Lists
pub mod Fronts
pub mod Steps
pub mod OneCode
