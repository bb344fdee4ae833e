pub mod Code
pub mod Signatures
pub mod Tied
pub mod Layers
