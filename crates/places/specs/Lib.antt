pub mod Joins
pub mod Left
pub mod Views
pub mod Indexes
pub mod Turns
