pub mod Words
pub mod Transfers
pub mod Formed
