pub mod Accepted
pub mod Named
pub mod Reaching
pub mod Given
pub mod Listed
pub mod Fitted
pub mod Inserted
