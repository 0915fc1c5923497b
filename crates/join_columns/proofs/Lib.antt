pub mod Opened
pub mod Truths
pub mod JoinColumns
mod Matching
