pub mod KeptNodes
pub mod Taken
pub mod Same
