pub mod Layers
pub mod Undone
pub mod WriteSet
pub mod InUse
pub mod Bounded
pub mod Whole
pub mod Follows
pub mod Puts
