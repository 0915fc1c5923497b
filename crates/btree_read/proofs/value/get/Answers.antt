use Rattle.btree_read.proofs.NodeLemmas.{read_refused_on}
use Rattle.btree_read.proofs.CountLemmas.{no_tree_at_root}
use Rattle.btree_read.proofs.value.get.Goals as goal
use Rattle.std.proofs.Common.{arith}

pub returns-clause-refusal : goal.returns-clause-refusal
returns-clause-refusal g c =
    read_refused_on _ _ _ _ _ _ (omega arith) (no_tree_at_root _ _ (λ n h. g.met.R.PageReader.bounded _ n h) c.if-root-eq0.false) c.get_below.ensures.refusal
