pub mod Kept
pub mod Assigned
