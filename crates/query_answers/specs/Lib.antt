pub mod Lent
pub mod Answered
pub mod Refused
pub mod Sources
pub mod Gives
pub mod Itself
pub mod Planned
pub mod Explanation
