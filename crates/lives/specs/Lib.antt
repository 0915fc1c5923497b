pub mod Committed
pub mod Told
pub mod Twice
