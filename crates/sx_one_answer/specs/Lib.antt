pub mod Same
pub mod Agree
pub mod Decided
