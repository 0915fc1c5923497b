use Rattle.database_trees.proofs.DatabaseLemmas.{at_first}
use Rattle.stored_tables.proofs.SchemaLemmas.{none_at_first}
use Rattle.database_trees.proofs.laws.no_database_at_first.Goals as goal

pub returns-clause-holds : goal.returns-clause-holds
returns-clause-holds c = λ pages. at_first pages (λ e. absurd (cc))

pub returns-clause-owned : goal.returns-clause-owned
returns-clause-owned c = λ pages none. at_first pages (λ e. none)

pub returns-clause-shows : goal.returns-clause-shows
returns-clause-shows c = none_at_first
