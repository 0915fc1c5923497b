use Rattle.btree_remove.proofs.LawLemmas.{beside_stays, still_apart}
use Rattle.btree_remove.proofs.laws.trees_beside_stay.Goals as goal

pub returns-clause-stays : goal.returns-clause-stays
returns-clause-stays c = beside_stays

pub returns-clause-apart : goal.returns-clause-apart
returns-clause-apart c = still_apart
