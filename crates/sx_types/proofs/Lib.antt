mod Alike
mod Gained
pub mod Nesting
mod Same
