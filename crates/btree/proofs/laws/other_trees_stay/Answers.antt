use Rattle.btree.proofs.LawLemmas.{tree_stays, tree_apart, tree_used}
use Rattle.btree.proofs.laws.other_trees_stay.Goals as goal

pub returns-clause-stays : goal.returns-clause-stays
returns-clause-stays c = tree_stays

pub returns-clause-apart : goal.returns-clause-apart
returns-clause-apart c = tree_apart

pub returns-clause-used : goal.returns-clause-used
returns-clause-used c = tree_used
