pub mod AddressMap
pub mod Fields
pub mod Tests
pub mod Loading
pub mod Layout
