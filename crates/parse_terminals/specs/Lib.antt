pub mod Readers
pub mod ReadTerminals
