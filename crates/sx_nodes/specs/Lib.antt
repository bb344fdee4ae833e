pub mod Pieces
pub mod Walks
pub mod Stacks
pub mod Own
