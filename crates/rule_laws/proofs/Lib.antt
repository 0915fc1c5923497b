pub mod Reading
pub mod Example
pub mod Good
pub mod Changed
pub mod ByRules
pub mod Engines
