pub mod Lists
pub mod Nodes
pub mod Sorted
pub mod Tree
pub mod Search
pub mod Leaves
pub mod Blocks
pub mod Near
