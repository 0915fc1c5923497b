pub mod Parts
pub mod Lists
pub mod Versions
pub mod Steps
pub mod Reading
pub mod Headers
pub mod New
