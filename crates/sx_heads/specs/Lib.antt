pub mod Heads
pub mod Widths
pub mod Signatures
pub mod Variables
