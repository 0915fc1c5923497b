pub mod Sought
pub mod Walked
pub mod Begun
