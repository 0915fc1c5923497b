pub mod Operators
pub mod Composed
pub mod Sees
pub mod Moved
pub mod Widths
