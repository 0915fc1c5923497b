pub mod Lists
pub mod Counts
pub mod Steps
pub mod Declarations
pub mod Crossing
