pub mod Places
pub mod Records
pub mod Given
pub mod Keepable
pub mod References
pub mod Cuts
pub mod Rows
