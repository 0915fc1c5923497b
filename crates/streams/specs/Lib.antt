pub mod Steps
pub mod Blocks
pub mod Numbers
pub mod Parts
pub mod Reads
pub mod Sides
pub mod Ahead
