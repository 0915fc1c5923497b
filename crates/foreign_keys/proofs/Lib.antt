pub mod Members
pub mod Pairing
pub mod Following
pub mod Answering
pub mod Asking
pub mod Chaining
pub mod Leading
pub mod Told
