pub mod Visit
pub mod Outline
