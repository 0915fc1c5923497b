use Rattle.btree.proofs.OneLemmas.{one_tree}
use Rattle.btree.proofs.entry_laws.entries_are_one.Goals as goal

pub returns : goal.returns
returns c = one_tree
