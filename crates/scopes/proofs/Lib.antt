pub mod Counted
pub mod NameLists
pub mod Scopes
