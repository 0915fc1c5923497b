pub mod Parts
pub mod Productions
pub mod Texts
