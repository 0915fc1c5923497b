pub mod Calm
pub mod Within
