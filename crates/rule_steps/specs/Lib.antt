pub mod Attempted
pub mod Ends
pub mod Found
