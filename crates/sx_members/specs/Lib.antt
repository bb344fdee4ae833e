pub mod Variables
pub mod Members
