pub mod Mentions
pub mod Reaching
pub mod Walking
