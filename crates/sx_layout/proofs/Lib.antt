pub mod Circles
mod Lists
mod Measures
mod Parts
mod Searches
mod Sums
mod Walks
