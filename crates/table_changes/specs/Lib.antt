pub mod Indexes
pub mod Given
