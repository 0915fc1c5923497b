use Rattle.stored_tables.proofs.HeldLemmas.{at_first}
use Rattle.stored_tables.proofs.SchemaLemmas.{none_at_first}
use Rattle.stored_tables.proofs.laws.no_tables_at_first.Goals as goal

pub returns-clause-holds : goal.returns-clause-holds
returns-clause-holds c = at_first

pub returns-clause-shows : goal.returns-clause-shows
returns-clause-shows c = none_at_first
