pub mod Deciding
pub mod Kept
