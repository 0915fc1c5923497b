pub mod Shallow
pub mod Trees
