pub mod ColumnNames
pub mod ConditionParts
pub mod Joins
pub mod Stars
pub mod Covers
pub mod FindsLemmas
