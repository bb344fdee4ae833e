pub mod Followed
pub mod Meetings
pub mod FirstArea
pub mod Kept
pub mod Straightened
