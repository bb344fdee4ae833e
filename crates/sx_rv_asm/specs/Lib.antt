pub mod Items
pub mod Forms
pub mod Layout
pub mod Labels
pub mod Walking
pub mod Arriving
pub mod Fetching
