pub mod TreeNodes
pub mod Taken
