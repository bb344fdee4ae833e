pub mod Classes
pub mod Firsts
pub mod Rows
mod Adds
