use Rattle.std.proofs.Common.{le_trans, ◌+◌, ◌-◌, ◌∙◌, sym, arith}
use Rattle.btree_read.proofs.NodeLemmas.{harm_weaker, read_refused, never_ok, err_passed}
use Rattle.btree_read.proofs.SearchLemmas.{no_level_left}
use Rattle.btree_read.proofs.LeafLemmas.{leaf_refused_on}
use Rattle.btree_read.proofs.SeenLemmas.{child_more, child_not_linked, leads_more, leads_none, leaf_of_another, more_enough, more_inner, more_leaf, no_node_leaves, no_tree_leaves, one_on, stays_none}
use Rattle.btree_read.proofs.leaf_block.+more_below.Goals as goal

pub returns-in_err-node-clause-refusal : goal.returns-in_err-node-clause-refusal
returns-in_err-node-clause-refusal g t c =
    err_passed c.from_residual.result c.in_err-node.field-0.0 _ c.from_residual.ensures.1
    (harm_weaker _ _ _ _ _ (no_node_leaves _ _ c.args.levels c.args.seen.now.walk.named) c.in_err-node.ensures.refusal)

pub returns-then-seen-eq0-clause-sees : goal.returns-then-seen-eq0-clause-sees
returns-then-seen-eq0-clause-sees g t c =
    more_enough _ _ _ (c.loop-i.i + 1) c.in_ok-node.ensures.node (sym c.in-Inner.ensures) (omega (arith, c.loop-i-test.true, c.loop-i.auto.i-end, c.len-i-end.ensures.length))
    c.args.seen.now c.loop-i.seen c.if-seen-eq0.true c.loop-i.invariant.stays

pub returns-then-levels-eq0-clause-refusal : goal.returns-then-levels-eq0-clause-refusal
returns-then-levels-eq0-clause-refusal g t c = no_tree_leaves _ _ _ c.args.seen.now.walk.named (no_level_left _ _ _ _ c.in_ok-node.ensures.node (sym c.in-Inner.ensures) c.if-levels-eq0.true)

pub returns-in-Leaf-clause-sees : goal.returns-in-Leaf-clause-sees
returns-in-Leaf-clause-sees g t c =
    more_leaf _ _ _ c.args.seen.now c.see_next.new.seen c.see_next.result c.in_ok-node.ensures.node (sym c.in-Leaf.ensures)
    c.see_next.ensures.entries c.see_next.ensures.named c.see_next.ensures.next c.see_next.ensures.wanted

pub returns-in-Leaf-clause-refusal : goal.returns-in-Leaf-clause-refusal
returns-in-Leaf-clause-refusal g t c =
    leaf_refused_on c.see_next.result _ _ _ _ c.in_ok-node.ensures.rising
    (leaf_of_another _ _ c.args.levels _ c.args.seen.now.walk.named c.in_ok-node.ensures.node (sym c.in-Leaf.ensures)) c.see_next.ensures.refusal

pub returns-in_err-more_below-in-Inner-clause-refusal : goal.returns-in_err-more_below-in-Inner-clause-refusal
returns-in_err-more_below-in-Inner-clause-refusal g t c =
    err_passed c.from_residual-in_err-more_below-in-Inner.result c.in_err-more_below-in-Inner.field-0.0 _ c.from_residual-in_err-more_below-in-Inner.ensures.1
    (read_refused _ _ _ _ _ _ c.in_ok-node.ensures.rising
    (child_not_linked _ _ _ _ _ 0 c.in_ok-node.ensures.same c.in_ok-node.ensures.node (sym c.in-Inner.ensures) (omega arith) c.child_at-first.ensures
    c.args.seen.now.walk.named c.args.seen.now.walk.named c.args.levels (c.args.levels - 1) (omega arith) (leads_none _ _ c.args.seen.now.walk.named)) c.in_err-more_below-in-Inner.ensures.refusal)

pub loop-i-init : goal.loop-i-init
loop-i-init g t c = record {
  same = c.in_ok-more_below-in-Inner.ensures.same ∙ c.in_ok-node.ensures.same;
  stays = child_more _ _ _ _ _ 0 c.in_ok-node.ensures.same c.in_ok-node.ensures.node (sym c.in-Inner.ensures) (omega arith) c.child_at-first.ensures
      c.args.seen.now c.args.seen.now c.more_below.new.seen (stays_none _ _ c.args.seen.now) c.in_ok-more_below-in-Inner.ensures.sees;
  whole = λ w. c.in_ok-more_below-in-Inner.ensures.whole (c.in_ok-node.ensures.whole w);
  rising = omega (arith, c.in_ok-node.ensures.rising, c.in_ok-more_below-in-Inner.ensures.rising);
  follows = g.met.R.PageReader.follows_trans _ _ _ c.in_ok-node.ensures.follows c.in_ok-more_below-in-Inner.ensures.follows;
}

pub returns-in_err-more_below-in-Inner-2-clause-refusal : goal.returns-in_err-more_below-in-Inner-2-clause-refusal
returns-in_err-more_below-in-Inner-2-clause-refusal g t c =
    err_passed c.from_residual-in_err-more_below-in-Inner-2.result c.in_err-more_below-in-Inner-2.field-0.0 _ c.from_residual-in_err-more_below-in-Inner-2.ensures.1
    (read_refused _ _ _ _ _ _ c.loop-i.invariant.rising
    (child_not_linked _ _ _ _ _ (c.loop-i.i + 1) c.loop-i.invariant.same c.in_ok-node.ensures.node (sym c.in-Inner.ensures) (omega arith) c.child_at-child.ensures
    c.args.seen.now.walk.named c.loop-i.seen.walk.named c.args.levels (c.args.levels - 1) (omega arith)
    (leads_more _ _ (c.loop-i.i + 1) c.args.seen.now c.loop-i.seen c.loop-i.invariant.stays c.if-seen-eq0.false)) c.in_err-more_below-in-Inner-2.ensures.refusal)

pub loop-i-preserved : goal.loop-i-preserved
loop-i-preserved g t c = record {
  same = c.in_ok-more_below-in-Inner-2.ensures.same ∙ c.loop-i.invariant.same;
  stays = one_on _ _ (c.loop-i.i + 1) c.args.seen.now c.more_below-in-loop-i.new.seen
      (child_more _ _ _ _ _ (c.loop-i.i + 1) c.loop-i.invariant.same c.in_ok-node.ensures.node (sym c.in-Inner.ensures) (omega arith) c.child_at-child.ensures
      c.args.seen.now c.loop-i.seen c.more_below-in-loop-i.new.seen c.loop-i.invariant.stays c.in_ok-more_below-in-Inner-2.ensures.sees);
  whole = λ w. c.in_ok-more_below-in-Inner-2.ensures.whole (c.loop-i.invariant.whole w);
  rising = omega (arith, c.loop-i.invariant.rising, c.in_ok-more_below-in-Inner-2.ensures.rising);
  follows = g.met.R.PageReader.follows_trans _ _ _ c.loop-i.invariant.follows c.in_ok-more_below-in-Inner-2.ensures.follows;
}

pub returns-after-loop-i-clause-sees : goal.returns-after-loop-i-clause-sees
returns-after-loop-i-clause-sees g t c =
    more_inner _ _ _ c.loop-i.i c.args.seen.now c.loop-i.seen c.in_ok-node.ensures.node (sym c.in-Inner.ensures)
    (omega (arith, c.loop-i-test.false, c.loop-i.auto.i-end, c.len-i-end.ensures.length)) c.loop-i.invariant.stays

pub returns-in_err-node-clause-sees : goal.returns-in_err-node-clause-sees
returns-in_err-node-clause-sees g t c = λ d s lo hi under n h. never_ok c.from_residual.result _ _ c.from_residual.ensures.1

pub returns-in_err-node-clause-same : goal.returns-in_err-node-clause-same
returns-in_err-node-clause-same g t c = c.read_node.ensures.same

pub returns-in_err-node-clause-whole : goal.returns-in_err-node-clause-whole
returns-in_err-node-clause-whole g t c = c.read_node.ensures.whole

pub returns-in_err-node-clause-rising : goal.returns-in_err-node-clause-rising
returns-in_err-node-clause-rising g t c = c.read_node.ensures.rising

pub returns-in_err-node-clause-follows : goal.returns-in_err-node-clause-follows
returns-in_err-node-clause-follows g t c = c.read_node.ensures.follows

pub returns-in_err-more_below-in-Inner-clause-sees : goal.returns-in_err-more_below-in-Inner-clause-sees
returns-in_err-more_below-in-Inner-clause-sees g t c = λ d s lo hi under n h. never_ok c.from_residual-in_err-more_below-in-Inner.result _ _ c.from_residual-in_err-more_below-in-Inner.ensures.1

pub returns-in_err-more_below-in-Inner-clause-same : goal.returns-in_err-more_below-in-Inner-clause-same
returns-in_err-more_below-in-Inner-clause-same g t c = c.more_below.ensures.same ∙ c.read_node.ensures.same

pub returns-in_err-more_below-in-Inner-clause-whole : goal.returns-in_err-more_below-in-Inner-clause-whole
returns-in_err-more_below-in-Inner-clause-whole g t c = λ w. c.more_below.ensures.whole (c.read_node.ensures.whole w)

pub returns-in_err-more_below-in-Inner-clause-rising : goal.returns-in_err-more_below-in-Inner-clause-rising
returns-in_err-more_below-in-Inner-clause-rising g t c = le_trans c.read_node.ensures.rising c.more_below.ensures.rising

pub returns-in_err-more_below-in-Inner-clause-follows : goal.returns-in_err-more_below-in-Inner-clause-follows
returns-in_err-more_below-in-Inner-clause-follows g t c = g.met.R.PageReader.follows_trans _ _ _ c.read_node.ensures.follows c.more_below.ensures.follows

pub returns-in_err-more_below-in-Inner-2-clause-sees : goal.returns-in_err-more_below-in-Inner-2-clause-sees
returns-in_err-more_below-in-Inner-2-clause-sees g t c = λ d s lo hi under n h. never_ok c.from_residual-in_err-more_below-in-Inner-2.result _ _ c.from_residual-in_err-more_below-in-Inner-2.ensures.1

pub returns-in_err-more_below-in-Inner-2-clause-same : goal.returns-in_err-more_below-in-Inner-2-clause-same
returns-in_err-more_below-in-Inner-2-clause-same g t c = c.more_below-in-loop-i.ensures.same ∙ c.loop-i.invariant.same

pub returns-in_err-more_below-in-Inner-2-clause-whole : goal.returns-in_err-more_below-in-Inner-2-clause-whole
returns-in_err-more_below-in-Inner-2-clause-whole g t c = λ w. c.more_below-in-loop-i.ensures.whole (c.loop-i.invariant.whole w)

pub returns-in_err-more_below-in-Inner-2-clause-rising : goal.returns-in_err-more_below-in-Inner-2-clause-rising
returns-in_err-more_below-in-Inner-2-clause-rising g t c = le_trans c.loop-i.invariant.rising c.more_below-in-loop-i.ensures.rising

pub returns-in_err-more_below-in-Inner-2-clause-follows : goal.returns-in_err-more_below-in-Inner-2-clause-follows
returns-in_err-more_below-in-Inner-2-clause-follows g t c = g.met.R.PageReader.follows_trans _ _ _ c.loop-i.invariant.follows c.more_below-in-loop-i.ensures.follows

pub returns-then-levels-eq0-clause-sees : goal.returns-then-levels-eq0-clause-sees
returns-then-levels-eq0-clause-sees g t c = λ d s lo hi under n h. tt

pub returns-then-levels-eq0-clause-same : goal.returns-then-levels-eq0-clause-same
returns-then-levels-eq0-clause-same g t c = c.read_node.ensures.same

pub returns-then-levels-eq0-clause-whole : goal.returns-then-levels-eq0-clause-whole
returns-then-levels-eq0-clause-whole g t c = c.read_node.ensures.whole

pub returns-then-levels-eq0-clause-rising : goal.returns-then-levels-eq0-clause-rising
returns-then-levels-eq0-clause-rising g t c = c.read_node.ensures.rising

pub returns-then-levels-eq0-clause-follows : goal.returns-then-levels-eq0-clause-follows
returns-then-levels-eq0-clause-follows g t c = c.read_node.ensures.follows

pub returns-in-Leaf-clause-same : goal.returns-in-Leaf-clause-same
returns-in-Leaf-clause-same g t c = c.read_node.ensures.same

pub returns-in-Leaf-clause-whole : goal.returns-in-Leaf-clause-whole
returns-in-Leaf-clause-whole g t c = c.read_node.ensures.whole

pub returns-in-Leaf-clause-rising : goal.returns-in-Leaf-clause-rising
returns-in-Leaf-clause-rising g t c = c.read_node.ensures.rising

pub returns-in-Leaf-clause-follows : goal.returns-in-Leaf-clause-follows
returns-in-Leaf-clause-follows g t c = c.read_node.ensures.follows

pub returns-after-loop-i-clause-refusal : goal.returns-after-loop-i-clause-refusal
returns-after-loop-i-clause-refusal g t c = tt

pub returns-after-loop-i-clause-same : goal.returns-after-loop-i-clause-same
returns-after-loop-i-clause-same g t c = c.loop-i.invariant.same

pub returns-after-loop-i-clause-whole : goal.returns-after-loop-i-clause-whole
returns-after-loop-i-clause-whole g t c = c.loop-i.invariant.whole

pub returns-after-loop-i-clause-rising : goal.returns-after-loop-i-clause-rising
returns-after-loop-i-clause-rising g t c = c.loop-i.invariant.rising

pub returns-after-loop-i-clause-follows : goal.returns-after-loop-i-clause-follows
returns-after-loop-i-clause-follows g t c = c.loop-i.invariant.follows

pub kind-requires : goal.kind-requires
kind-requires g t c = tt

pub len-i-end-requires : goal.len-i-end-requires
len-i-end-requires g t c = tt

pub see_next-requires : goal.see_next-requires
see_next-requires g t c = tt

pub read_node-requires : goal.read_node-requires
read_node-requires g t c κs = λ h. h

pub child_at-first-requires-clause-inner : goal.child_at-first-requires-clause-inner
child_at-first-requires-clause-inner g t c = sym c.in-Inner.ensures

pub child_at-child-requires-clause-inner : goal.child_at-child-requires-clause-inner
child_at-child-requires-clause-inner g t c = sym c.in-Inner.ensures

pub child_at-child-requires-clause-place : goal.child_at-child-requires-clause-place
child_at-child-requires-clause-place g t c = omega (arith, c.loop-i-test.true, c.loop-i.auto.i-end, c.len-i-end.ensures.length)

pub overflow_sub-levels : goal.overflow_sub-levels
overflow_sub-levels g t c = omega (arith, c.if-levels-eq0.false)

pub overflow_sub-levels-in-loop-i : goal.overflow_sub-levels-in-loop-i
overflow_sub-levels-in-loop-i g t c = omega (arith, c.if-levels-eq0.false)

pub returns-then-seen-eq0-clause-same : goal.returns-then-seen-eq0-clause-same
returns-then-seen-eq0-clause-same g t c = c.loop-i.invariant.same

pub returns-then-seen-eq0-clause-whole : goal.returns-then-seen-eq0-clause-whole
returns-then-seen-eq0-clause-whole g t c = c.loop-i.invariant.whole

pub returns-then-seen-eq0-clause-rising : goal.returns-then-seen-eq0-clause-rising
returns-then-seen-eq0-clause-rising g t c = c.loop-i.invariant.rising

pub returns-then-seen-eq0-clause-follows : goal.returns-then-seen-eq0-clause-follows
returns-then-seen-eq0-clause-follows g t c = c.loop-i.invariant.follows

pub returns-then-seen-eq0-clause-refusal : goal.returns-then-seen-eq0-clause-refusal
returns-then-seen-eq0-clause-refusal g t c = tt
