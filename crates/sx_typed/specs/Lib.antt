pub mod Functions
pub mod Layers
pub mod Observed
pub mod Storage
