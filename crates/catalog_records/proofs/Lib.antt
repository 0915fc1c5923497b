mod Loops
pub mod Repeats
pub mod PlaceLemmas
pub mod Exits
pub mod RuleLemmas
pub mod NumberedLemmas
pub mod TableLemmas
pub mod ApartLemmas
pub mod ReferenceLemmas
