use Rattle.index_trees.proofs.EntryLemmas.{index_stays, index_used}
use Rattle.index_trees.proofs.laws.indexes_stay.Goals as goal

pub returns-clause-stays : goal.returns-clause-stays
returns-clause-stays c = index_stays

pub returns-clause-used : goal.returns-clause-used
returns-clause-used c = index_used
