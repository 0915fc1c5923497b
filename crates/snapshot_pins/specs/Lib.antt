pub mod Listed
pub mod Pinned
