pub mod Grow
pub mod Written
pub mod Overfull
pub mod Kept
