use Rattle.std.proofs.Common.{refl}
use Rattle.database_trees.proofs.DatabaseLemmas.{as_tables}
use Rattle.database_trees.proofs.laws.reads_as_tables.Goals as goal

pub returns-clause-holds : goal.returns-clause-holds
returns-clause-holds c = as_tables

pub returns-clause-shows : goal.returns-clause-shows
returns-clause-shows c = λ tables. refl
