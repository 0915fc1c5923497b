pub mod Reached
pub mod OneTree
