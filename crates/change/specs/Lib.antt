pub mod Sources
pub mod Listed
pub mod Reached
pub mod Fits
pub mod Given
