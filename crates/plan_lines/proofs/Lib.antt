pub mod Nodes
pub mod Margins
pub mod Characters
