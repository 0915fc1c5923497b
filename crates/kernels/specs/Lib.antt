pub mod KeyOrder
pub mod Digest
pub mod Marks
pub mod Counts
pub mod Groups
pub mod Adding
pub mod Aggregates
pub mod Totals
