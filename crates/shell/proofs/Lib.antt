pub mod Running
pub mod Alone
