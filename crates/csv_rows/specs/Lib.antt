pub mod Causes
pub mod Paired
pub mod Rows
pub mod Undoubled
pub mod Written
