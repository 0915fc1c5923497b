use Rattle.btree_read.proofs.AscendLemmas.{root_ascends}
use Rattle.btree.proofs.entry_laws.entries_ascend.Goals as goal

pub returns : goal.returns
returns c = root_ascends
