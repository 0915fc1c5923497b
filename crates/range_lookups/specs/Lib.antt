pub mod Ends
pub mod Sought
