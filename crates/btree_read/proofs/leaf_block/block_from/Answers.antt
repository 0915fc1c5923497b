use Rattle.std.proofs.lemmas.Result.{err_from_is_err_and}
use Rattle.btree_read.proofs.NodeLemmas.{harm_weaker}
use Rattle.btree_read.proofs.SeenLemmas.{block_at_root, block_at_zero, block_not_ended, no_leaves_no_tree}
use Rattle.btree_read.proofs.leaf_block.block_from.Goals as goal

pub returns-then-root-eq0-clause-found : goal.returns-then-root-eq0-clause-found
returns-then-root-eq0-clause-found g c = block_at_zero _ _ c.args.start c.args.key.now c.args.most c.new-entries.result c.if-root-eq0.true c.new-entries.ensures

pub returns-in_err-first-clause-refusal : goal.returns-in_err-first-clause-refusal
returns-in_err-first-clause-refusal g c =
    let p = err_from_is_err_and c.from_residual.result c.from_residual.ensures.1 in
    rw (p.1, p.2) (harm_weaker _ _ _ _ _ (no_leaves_no_tree _ _ (λ n h. g.met.R.PageReader.bounded _ n h) c.if-root-eq0.false) c.in_err-first.ensures.refusal)

pub returns-then-is_cut_off-clause-refusal : goal.returns-then-is_cut_off-clause-refusal
returns-then-is_cut_off-clause-refusal g c =
    block_not_ended _ _ c.args.start c.args.key.now c.args.most c.in_ok-first.first c.block_below.new.seen c.if-root-eq0.false
    (c.is_cut_off.ensures.wanted c.if-is_cut_off.true) (c.is_cut_off.ensures.named c.if-is_cut_off.true) c.in_ok-first.ensures.begins

pub returns-clause-found : goal.returns-clause-found
returns-clause-found g c = block_at_root _ _ c.args.start c.args.key.now c.args.most c.in_ok-first.first c.block_below.new.seen c.if-root-eq0.false c.in_ok-first.ensures.begins
