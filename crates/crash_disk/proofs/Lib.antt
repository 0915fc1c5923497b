mod TimeLemmas
mod RangeLemmas
mod OutcomeLemmas
mod AddedLemmas
