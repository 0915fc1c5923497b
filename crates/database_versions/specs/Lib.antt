pub mod Databases
pub mod Refusals
pub mod Changed
pub mod Opened
pub mod Saved
pub mod Undone
