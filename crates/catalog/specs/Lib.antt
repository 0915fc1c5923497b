pub mod Held
pub mod Changed
pub mod Left
pub mod Decoded
