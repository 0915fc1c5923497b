pub mod EntryLemmas
pub mod SameLemmas
pub mod RefusalLemmas
