pub mod Views
pub mod Productions
