pub mod Rows
mod Ends
