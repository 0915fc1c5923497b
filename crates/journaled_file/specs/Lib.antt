pub mod Shown
pub mod Renewed
pub mod Refused
