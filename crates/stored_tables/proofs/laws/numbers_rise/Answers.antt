use Rattle.stored_tables.proofs.RiseLemmas.{numbers_rise}
use Rattle.stored_tables.proofs.laws.numbers_rise.Goals as goal

pub returns : goal.returns
returns c = numbers_rise
