pub mod Nodes
pub mod Reading
mod Turns
