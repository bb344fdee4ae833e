pub mod Verdict
pub mod Walks
pub mod Tables
pub mod Paths
pub mod Names
pub mod WrittenTypes
