use Rattle.index_trees.proofs.EntryLemmas.{none_at}
use Rattle.index_trees.proofs.entries.value_at.Goals as goal

pub returns-in-None : goal.returns-in-None
returns-in-None c = none_at c.args.row.now c.args.column c.in-None.ensures.value
