mod Bridge
pub mod Parts
pub mod Turns
pub mod Lists
pub mod Declared
