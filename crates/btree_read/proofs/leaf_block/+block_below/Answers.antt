use Rattle.std.proofs.Common.{le_trans, ◌+◌, ◌-◌, ◌∙◌, None, sym, arith}
use Rattle.btree_read.proofs.NodeLemmas.{harm_weaker, read_refused, never_ok, err_passed}
use Rattle.btree_read.proofs.PlaceLemmas.{route_at}
use Rattle.btree_read.proofs.SearchLemmas.{no_level_left}
use Rattle.btree_read.proofs.LeafLemmas.{leaf_refused_on}
use Rattle.btree_read.proofs.SeenLemmas.{begun_on, block_enough, block_inner, block_leaf, child_first, child_next, child_not_linked, first_not_linked, leads_begun, no_node_leaves, no_tree_leaves}
use Rattle.btree_read.proofs.leaf_block.+block_below.Goals as goal

pub returns-in_err-node-clause-refusal : goal.returns-in_err-node-clause-refusal
returns-in_err-node-clause-refusal g t c =
    err_passed c.from_residual.result c.in_err-node.field-0.0 _ c.from_residual.ensures.1
    (harm_weaker _ _ _ _ _ (no_node_leaves _ _ c.args.levels None) c.in_err-node.ensures.refusal)

pub returns-then-levels-eq0-clause-refusal : goal.returns-then-levels-eq0-clause-refusal
returns-then-levels-eq0-clause-refusal g t c = no_tree_leaves _ _ _ None (no_level_left _ _ _ _ c.in_ok-node.ensures.node (sym c.in-Inner.ensures) c.if-levels-eq0.true)

pub returns-in-Leaf-clause-begins : goal.returns-in-Leaf-clause-begins
returns-in-Leaf-clause-begins g t c =
    block_leaf _ _ _ c.args.start c.args.key.now c.args.seen.now.wanted c.see_first.new.seen c.see_first.result c.in_ok-node.ensures.node (sym c.in-Leaf.ensures)
    c.see_first.ensures.begins

pub returns-in-Leaf-clause-refusal : goal.returns-in-Leaf-clause-refusal
returns-in-Leaf-clause-refusal g t c =
    leaf_refused_on c.see_first.result _ _ _ _ c.in_ok-node.ensures.rising (λ none. absurd none) c.see_first.ensures.refusal

pub returns-in_err-first-in-Inner-clause-refusal : goal.returns-in_err-first-in-Inner-clause-refusal
returns-in_err-first-in-Inner-clause-refusal g t c =
    err_passed c.from_residual-in_err-first-in-Inner.result c.in_err-first-in-Inner.field-0.0 _ c.from_residual-in_err-first-in-Inner.ensures.1
    (read_refused _ _ _ _ _ _ c.in_ok-node.ensures.rising
    (first_not_linked _ _ _ _ _ c.first_place-at.result c.in_ok-node.ensures.same c.in_ok-node.ensures.node (sym c.in-Inner.ensures) c.first_place-at.ensures.within c.child_at-child.ensures
    None c.args.levels (c.args.levels - 1) (omega arith)) c.in_err-first-in-Inner.ensures.refusal)

pub loop-i-init : goal.loop-i-init
loop-i-init g t c = record {
  same = c.in_ok-first-in-Inner.ensures.same ∙ c.in_ok-node.ensures.same;
  stays = begun_on _ _ _ _ _ _ _ _ (child_first _ _ _ _ _ c.first_place-at.result c.in_ok-node.ensures.same c.in_ok-node.ensures.node (sym c.in-Inner.ensures) c.first_place-at.ensures.within c.child_at-child.ensures
      c.args.start c.args.key.now c.args.seen.now.wanted c.in_ok-first-in-Inner.first c.block_below.new.seen
      (route_at _ _ _ c.first_place-at.ensures.within c.first_place-at.ensures.before c.first_place-at.ensures.behind) c.in_ok-first-in-Inner.ensures.begins);
  whole = λ w. c.in_ok-first-in-Inner.ensures.whole (c.in_ok-node.ensures.whole w);
  rising = omega (arith, c.in_ok-node.ensures.rising, c.in_ok-first-in-Inner.ensures.rising);
  follows = g.met.R.PageReader.follows_trans _ _ _ c.in_ok-node.ensures.follows c.in_ok-first-in-Inner.ensures.follows;
}

pub returns-in_err-more_below-in-Inner-clause-refusal : goal.returns-in_err-more_below-in-Inner-clause-refusal
returns-in_err-more_below-in-Inner-clause-refusal g t c =
    err_passed c.from_residual-in_err-more_below-in-Inner.result c.in_err-more_below-in-Inner.field-0.0 _ c.from_residual-in_err-more_below-in-Inner.ensures.1
    (read_refused _ _ _ _ _ _ c.loop-i.invariant.rising
    (child_not_linked _ _ _ _ _ (c.loop-i.i + 1) c.loop-i.invariant.same c.in_ok-node.ensures.node (sym c.in-Inner.ensures) (omega arith) c.child_at-next.ensures
    None c.loop-i.seen.walk.named c.args.levels (c.args.levels - 1) (omega arith)
    (leads_begun _ _ (c.loop-i.i + 1) _ _ _ _ c.loop-i.seen c.loop-i.invariant.stays c.if-seen-eq0.false)) c.in_err-more_below-in-Inner.ensures.refusal)

pub loop-i-preserved : goal.loop-i-preserved
loop-i-preserved g t c = record {
  same = c.in_ok-more_below-in-Inner.ensures.same ∙ c.loop-i.invariant.same;
  stays = begun_on _ _ _ _ _ _ _ (c.loop-i.i + 1) (child_next _ _ _ _ _ (c.loop-i.i + 1) c.loop-i.invariant.same c.in_ok-node.ensures.node (sym c.in-Inner.ensures) (omega arith) c.child_at-next.ensures
      c.args.start c.args.key.now c.args.seen.now.wanted c.in_ok-first-in-Inner.first c.loop-i.seen c.more_below.new.seen c.first_place-at.result
      (route_at _ _ _ c.first_place-at.ensures.within c.first_place-at.ensures.before c.first_place-at.ensures.behind) (omega (arith, c.loop-i.auto.i)) c.loop-i.invariant.stays c.in_ok-more_below-in-Inner.ensures.sees);
  whole = λ w. c.in_ok-more_below-in-Inner.ensures.whole (c.loop-i.invariant.whole w);
  rising = omega (arith, c.loop-i.invariant.rising, c.in_ok-more_below-in-Inner.ensures.rising);
  follows = g.met.R.PageReader.follows_trans _ _ _ c.loop-i.invariant.follows c.in_ok-more_below-in-Inner.ensures.follows;
}

pub returns-after-loop-i-clause-begins : goal.returns-after-loop-i-clause-begins
returns-after-loop-i-clause-begins g t c =
    block_inner _ _ _ c.loop-i.i c.args.start c.args.key.now c.args.seen.now.wanted c.in_ok-first-in-Inner.first c.loop-i.seen c.in_ok-node.ensures.node (sym c.in-Inner.ensures)
    (omega (arith, c.loop-i-test.false, c.loop-i.auto.i-end, c.len-i-end.ensures.length)) c.loop-i.invariant.stays

pub returns-then-seen-eq0-clause-begins : goal.returns-then-seen-eq0-clause-begins
returns-then-seen-eq0-clause-begins g t c =
    block_enough _ _ _ (c.loop-i.i + 1) c.in_ok-node.ensures.node (sym c.in-Inner.ensures) (omega (arith, c.loop-i-test.true, c.loop-i.auto.i-end, c.len-i-end.ensures.length))
    c.args.start c.args.key.now c.args.seen.now.wanted c.in_ok-first-in-Inner.first c.loop-i.seen c.if-seen-eq0.true c.loop-i.invariant.stays

pub returns-in_err-node-clause-begins : goal.returns-in_err-node-clause-begins
returns-in_err-node-clause-begins g t c = λ d s lo hi under. never_ok c.from_residual.result _ _ c.from_residual.ensures.1

pub returns-in_err-first-in-Inner-clause-begins : goal.returns-in_err-first-in-Inner-clause-begins
returns-in_err-first-in-Inner-clause-begins g t c = λ d s lo hi under. never_ok c.from_residual-in_err-first-in-Inner.result _ _ c.from_residual-in_err-first-in-Inner.ensures.1

pub returns-in_err-more_below-in-Inner-clause-begins : goal.returns-in_err-more_below-in-Inner-clause-begins
returns-in_err-more_below-in-Inner-clause-begins g t c = λ d s lo hi under. never_ok c.from_residual-in_err-more_below-in-Inner.result _ _ c.from_residual-in_err-more_below-in-Inner.ensures.1

pub returns-then-levels-eq0-clause-begins : goal.returns-then-levels-eq0-clause-begins
returns-then-levels-eq0-clause-begins g t c = λ d s lo hi under. tt

pub returns-in_err-node-clause-same : goal.returns-in_err-node-clause-same
returns-in_err-node-clause-same g t c = c.read_node.ensures.same

pub returns-in_err-node-clause-whole : goal.returns-in_err-node-clause-whole
returns-in_err-node-clause-whole g t c = c.read_node.ensures.whole

pub returns-in_err-node-clause-rising : goal.returns-in_err-node-clause-rising
returns-in_err-node-clause-rising g t c = c.read_node.ensures.rising

pub returns-in_err-node-clause-follows : goal.returns-in_err-node-clause-follows
returns-in_err-node-clause-follows g t c = c.read_node.ensures.follows

pub returns-then-levels-eq0-clause-same : goal.returns-then-levels-eq0-clause-same
returns-then-levels-eq0-clause-same g t c = c.read_node.ensures.same

pub returns-then-levels-eq0-clause-whole : goal.returns-then-levels-eq0-clause-whole
returns-then-levels-eq0-clause-whole g t c = c.read_node.ensures.whole

pub returns-then-levels-eq0-clause-rising : goal.returns-then-levels-eq0-clause-rising
returns-then-levels-eq0-clause-rising g t c = c.read_node.ensures.rising

pub returns-then-levels-eq0-clause-follows : goal.returns-then-levels-eq0-clause-follows
returns-then-levels-eq0-clause-follows g t c = c.read_node.ensures.follows

pub returns-in-Leaf-clause-same : goal.returns-in-Leaf-clause-same
returns-in-Leaf-clause-same g t c = c.read_node.ensures.same

pub returns-in-Leaf-clause-whole : goal.returns-in-Leaf-clause-whole
returns-in-Leaf-clause-whole g t c = c.read_node.ensures.whole

pub returns-in-Leaf-clause-rising : goal.returns-in-Leaf-clause-rising
returns-in-Leaf-clause-rising g t c = c.read_node.ensures.rising

pub returns-in-Leaf-clause-follows : goal.returns-in-Leaf-clause-follows
returns-in-Leaf-clause-follows g t c = c.read_node.ensures.follows

pub returns-in_err-first-in-Inner-clause-same : goal.returns-in_err-first-in-Inner-clause-same
returns-in_err-first-in-Inner-clause-same g t c = c.block_below.ensures.same ∙ c.read_node.ensures.same

pub returns-in_err-first-in-Inner-clause-whole : goal.returns-in_err-first-in-Inner-clause-whole
returns-in_err-first-in-Inner-clause-whole g t c = λ w. c.block_below.ensures.whole (c.read_node.ensures.whole w)

pub returns-in_err-first-in-Inner-clause-rising : goal.returns-in_err-first-in-Inner-clause-rising
returns-in_err-first-in-Inner-clause-rising g t c = le_trans c.read_node.ensures.rising c.block_below.ensures.rising

pub returns-in_err-first-in-Inner-clause-follows : goal.returns-in_err-first-in-Inner-clause-follows
returns-in_err-first-in-Inner-clause-follows g t c = g.met.R.PageReader.follows_trans _ _ _ c.read_node.ensures.follows c.block_below.ensures.follows

pub returns-in_err-more_below-in-Inner-clause-same : goal.returns-in_err-more_below-in-Inner-clause-same
returns-in_err-more_below-in-Inner-clause-same g t c = c.more_below.ensures.same ∙ c.loop-i.invariant.same

pub returns-in_err-more_below-in-Inner-clause-whole : goal.returns-in_err-more_below-in-Inner-clause-whole
returns-in_err-more_below-in-Inner-clause-whole g t c = λ w. c.more_below.ensures.whole (c.loop-i.invariant.whole w)

pub returns-in_err-more_below-in-Inner-clause-rising : goal.returns-in_err-more_below-in-Inner-clause-rising
returns-in_err-more_below-in-Inner-clause-rising g t c = le_trans c.loop-i.invariant.rising c.more_below.ensures.rising

pub returns-in_err-more_below-in-Inner-clause-follows : goal.returns-in_err-more_below-in-Inner-clause-follows
returns-in_err-more_below-in-Inner-clause-follows g t c = g.met.R.PageReader.follows_trans _ _ _ c.loop-i.invariant.follows c.more_below.ensures.follows

pub returns-after-loop-i-clause-refusal : goal.returns-after-loop-i-clause-refusal
returns-after-loop-i-clause-refusal g t c = tt

pub returns-after-loop-i-clause-same : goal.returns-after-loop-i-clause-same
returns-after-loop-i-clause-same g t c = c.loop-i.invariant.same

pub returns-after-loop-i-clause-whole : goal.returns-after-loop-i-clause-whole
returns-after-loop-i-clause-whole g t c = c.loop-i.invariant.whole

pub returns-after-loop-i-clause-rising : goal.returns-after-loop-i-clause-rising
returns-after-loop-i-clause-rising g t c = c.loop-i.invariant.rising

pub returns-after-loop-i-clause-follows : goal.returns-after-loop-i-clause-follows
returns-after-loop-i-clause-follows g t c = c.loop-i.invariant.follows

pub returns-then-seen-eq0-clause-refusal : goal.returns-then-seen-eq0-clause-refusal
returns-then-seen-eq0-clause-refusal g t c = tt

pub returns-then-seen-eq0-clause-same : goal.returns-then-seen-eq0-clause-same
returns-then-seen-eq0-clause-same g t c = c.loop-i.invariant.same

pub returns-then-seen-eq0-clause-whole : goal.returns-then-seen-eq0-clause-whole
returns-then-seen-eq0-clause-whole g t c = c.loop-i.invariant.whole

pub returns-then-seen-eq0-clause-rising : goal.returns-then-seen-eq0-clause-rising
returns-then-seen-eq0-clause-rising g t c = c.loop-i.invariant.rising

pub returns-then-seen-eq0-clause-follows : goal.returns-then-seen-eq0-clause-follows
returns-then-seen-eq0-clause-follows g t c = c.loop-i.invariant.follows

pub kind-requires : goal.kind-requires
kind-requires g t c = tt

pub first_place-at-requires : goal.first_place-at-requires
first_place-at-requires g t c = tt

pub len-i-end-requires : goal.len-i-end-requires
len-i-end-requires g t c = tt

pub more_below-requires : goal.more_below-requires
more_below-requires g t c κs = λ h. h

pub see_first-requires-clause-entries : goal.see_first-requires-clause-entries
see_first-requires-clause-entries g t c = c.requires.entries

pub see_first-requires-clause-named : goal.see_first-requires-clause-named
see_first-requires-clause-named g t c = c.requires.named

pub read_node-requires : goal.read_node-requires
read_node-requires g t c κs = λ h. h

pub child_at-child-requires-clause-inner : goal.child_at-child-requires-clause-inner
child_at-child-requires-clause-inner g t c = sym c.in-Inner.ensures

pub child_at-child-requires-clause-place : goal.child_at-child-requires-clause-place
child_at-child-requires-clause-place g t c = c.first_place-at.ensures.within

pub child_at-next-requires-clause-inner : goal.child_at-next-requires-clause-inner
child_at-next-requires-clause-inner g t c = sym c.in-Inner.ensures

pub child_at-next-requires-clause-place : goal.child_at-next-requires-clause-place
child_at-next-requires-clause-place g t c = omega (arith, c.loop-i-test.true, c.loop-i.auto.i-end, c.len-i-end.ensures.length)

pub overflow_sub-levels : goal.overflow_sub-levels
overflow_sub-levels g t c = omega (arith, c.if-levels-eq0.false)

pub overflow_sub-levels-in-loop-i : goal.overflow_sub-levels-in-loop-i
overflow_sub-levels-in-loop-i g t c = omega (arith, c.if-levels-eq0.false)
