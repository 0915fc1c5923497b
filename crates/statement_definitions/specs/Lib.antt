pub mod Reading
pub mod Rollback
