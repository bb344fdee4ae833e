pub mod Failing
pub mod Headers
pub mod Passing
pub mod Memory
pub mod Written
