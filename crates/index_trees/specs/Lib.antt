pub mod Indexed
pub mod Refused
