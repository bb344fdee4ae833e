pub mod Measured
pub mod Late
pub mod Locals
pub mod Settled
pub mod Programs
pub mod Answers
pub mod Decided
