use Rattle.std.proofs.Common.{arith}
use Rattle.btree_read.proofs.NodeLemmas.{read_refused_on}
use Rattle.btree_read.proofs.CountLemmas.{no_tree_at_root}
use Rattle.btree_read.proofs.last.last_key.Goals as goal

pub returns-clause-refusal : goal.returns-clause-refusal
returns-clause-refusal g c =
    read_refused_on _ _ _ _ _ _ (omega arith) (no_tree_at_root _ _ (λ n h. g.met.R.PageReader.bounded _ n h) c.if-root-eq0.false) c.last_below.ensures.refusal
