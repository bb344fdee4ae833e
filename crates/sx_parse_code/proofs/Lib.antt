pub mod Rests
pub mod Firsts
pub mod Steps
pub mod Behind
