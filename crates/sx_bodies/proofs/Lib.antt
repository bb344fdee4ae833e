pub mod Failing
pub mod Runs
pub mod Once
pub mod Declared
pub mod Fitting
