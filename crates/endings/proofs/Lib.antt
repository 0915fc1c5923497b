pub mod Flushed
pub mod Said
