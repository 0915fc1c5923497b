pub mod Nodes
pub mod Seeing
pub mod Outwards
mod Turns
