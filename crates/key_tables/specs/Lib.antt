pub mod Keys
pub mod Places
pub mod Digests
pub mod Values
pub mod Among
