pub mod Passes
pub mod Sizes
pub mod Assembled
pub mod Standing
pub mod Numbers
pub mod Walks
pub mod Fetched
