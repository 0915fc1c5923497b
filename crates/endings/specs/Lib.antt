pub mod Status
pub mod Words
pub mod Tells
pub mod Ended
