pub mod OneCondition
pub mod Spelled
pub mod Readable
pub mod Inside
pub mod Places
pub mod Referenced
