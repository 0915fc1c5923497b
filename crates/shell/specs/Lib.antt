pub mod Status
pub mod Words
pub mod Runs
pub mod Alone
