pub mod Checks
pub mod Tables
pub mod ForeignKeys
