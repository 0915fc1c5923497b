pub mod Lines
pub mod Margin
