use Rattle.index_trees.proofs.EntryLemmas.{index_of_rows}
use Rattle.index_trees.proofs.laws.same_rows_same_index.Goals as goal

pub returns : goal.returns
returns c = index_of_rows
