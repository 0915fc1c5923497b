pub mod Dropped
pub mod Removed
