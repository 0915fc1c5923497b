pub mod Pairs
pub mod Asked
pub mod Sources
