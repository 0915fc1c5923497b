use Rattle.std.proofs.lemmas.Result.{err_from_is_err_and}
use Rattle.btree_read.proofs.CountLemmas.{no_tree_at_root}
use Rattle.btree_read.proofs.NodeLemmas.{harm_weaker}
use Rattle.btree_read.proofs.block.entries_from.Goals as goal

pub returns-in_err-some_below-clause-refusal : goal.returns-in_err-some_below-clause-refusal
returns-in_err-some_below-clause-refusal g c =
    let p = err_from_is_err_and c.from_residual.result c.from_residual.ensures.1 in
    rw (p.1, p.2) (harm_weaker _ _ _ _ _ (no_tree_at_root _ _ (λ n h. g.met.R.PageReader.bounded _ n h) c.if-root-eq0.false) c.in_err-some_below.ensures.refusal)
