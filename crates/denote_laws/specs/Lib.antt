pub mod Law
pub mod Sound
pub mod Changed
pub mod Difference
