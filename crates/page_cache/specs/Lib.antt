pub mod Frames
pub mod Cached
