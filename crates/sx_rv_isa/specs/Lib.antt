pub mod Table
pub mod Words
pub mod Registers
pub mod Effects
