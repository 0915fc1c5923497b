pub mod Bounded
pub mod Restored
pub mod Ranges
