pub mod Apart
pub mod Opened
pub mod ByName
