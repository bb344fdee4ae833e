pub mod Items
pub mod Captures
pub mod Fields
pub mod Locals
pub mod Special
pub mod Checked
pub mod Looks
pub mod Program
