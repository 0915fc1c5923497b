pub mod Broken
pub mod Declared
pub mod Violations
pub mod Settling
pub mod Held
pub mod Short
pub mod Faulty
pub mod Behind
pub mod Foretelling
pub mod Looking
pub mod Recounted
pub mod Said
pub mod Limits
mod Sorted
pub mod Matched
pub mod Unmatched
