pub mod Joins
pub mod Led
pub mod Looks
pub mod Parted
