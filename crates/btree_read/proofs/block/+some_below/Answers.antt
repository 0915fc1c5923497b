use Rattle.std.proofs.Common.{le_trans, ◌+◌, ◌∙◌, Ok, sym, arith}
use Rattle.btree_read.proofs.BlockLemmas.{child_taken, first_taken, one_further, taken_enough, taken_inner, taken_leaf}
use Rattle.btree_read.proofs.NodeLemmas.{harm_weaker, read_refused, never_ok, err_passed, memory_passed}
use Rattle.btree_read.proofs.PlaceLemmas.{route_at}
use Rattle.btree_read.proofs.SearchLemmas.{no_child_no_tree, no_level_left, no_node_no_tree}
use Rattle.btree_read.proofs.block.+some_below.Goals as goal

pub returns-in_err-node-clause-refusal : goal.returns-in_err-node-clause-refusal
returns-in_err-node-clause-refusal g t c =
    err_passed c.from_residual.result c.in_err-node.field-0.0 _ c.from_residual.ensures.1
    (harm_weaker _ _ _ _ _ (no_node_no_tree _ _ _) c.in_err-node.ensures.refusal)

pub returns-then-levels-eq0-clause-refusal : goal.returns-then-levels-eq0-clause-refusal
returns-then-levels-eq0-clause-refusal g t c = no_level_left _ _ _ _ c.in_ok-node.ensures.node (sym c.in-Inner.ensures) c.if-levels-eq0.true

pub returns-in_ok-take_from-in-Leaf-clause-taken : goal.returns-in_ok-take_from-in-Leaf-clause-taken
returns-in_ok-take_from-in-Leaf-clause-taken g t c =
    taken_leaf _ _ _ c.args.start c.args.key.now c.args.most c.args.found.now c.take_from.new.entries (Ok tt) c.in_ok-node.ensures.node (sym c.in-Leaf.ensures) c.in_ok-take_from-in-Leaf.ensures.taken

pub returns-in_err-some_below-in-Inner-clause-refusal : goal.returns-in_err-some_below-in-Inner-clause-refusal
returns-in_err-some_below-in-Inner-clause-refusal g t c =
    err_passed c.from_residual-in_err-some_below-in-Inner.result c.in_err-some_below-in-Inner.field-0.0 _ c.from_residual-in_err-some_below-in-Inner.ensures.1
    (read_refused _ _ _ _ _ _ c.in_ok-node.ensures.rising
    (no_child_no_tree _ _ _ _ _ _ _ _ c.in_ok-node.ensures.same c.in_ok-node.ensures.node (sym c.in-Inner.ensures) c.child_at-first.ensures (omega arith))
    c.in_err-some_below-in-Inner.ensures.refusal)

pub loop-i-init : goal.loop-i-init
loop-i-init g t c = record {
  same = c.in_ok-some_below-in-Inner.ensures.same ∙ c.in_ok-node.ensures.same;
  stays = one_further _ _ _ _ _ _ _ _ (child_taken _ _ _ _ _ c.first_place-at.result c.args.start c.args.key.now c.args.most c.args.found.now c.args.found.now
      c.in_ok-node.ensures.same c.in_ok-node.ensures.node (sym c.in-Inner.ensures) c.first_place-at.ensures.within c.child_at-first.ensures
      c.some_below.new.found
      (first_taken _ _ _ _ _ c.first_place-at.result c.args.start c.args.key.now c.args.most c.args.found.now c.args.found.now
      c.in_ok-node.ensures.same c.in_ok-node.ensures.node (sym c.in-Inner.ensures) c.first_place-at.ensures.within c.child_at-first.ensures
      (route_at _ _ _ c.first_place-at.ensures.within c.first_place-at.ensures.before c.first_place-at.ensures.behind) c.requires)
      c.in_ok-some_below-in-Inner.ensures.taken);
  few = c.in_ok-some_below-in-Inner.ensures.few;
  whole = λ w. c.in_ok-some_below-in-Inner.ensures.whole (c.in_ok-node.ensures.whole w);
  rising = omega (arith, c.in_ok-node.ensures.rising, c.in_ok-some_below-in-Inner.ensures.rising);
  follows = g.met.R.PageReader.follows_trans _ _ _ c.in_ok-node.ensures.follows c.in_ok-some_below-in-Inner.ensures.follows;
}

pub returns-in_err-some_below-in-Inner-2-clause-refusal : goal.returns-in_err-some_below-in-Inner-2-clause-refusal
returns-in_err-some_below-in-Inner-2-clause-refusal g t c =
    err_passed c.from_residual-in_err-some_below-in-Inner-2.result c.in_err-some_below-in-Inner-2.field-0.0 _ c.from_residual-in_err-some_below-in-Inner-2.ensures.1
    (read_refused _ _ _ _ _ _ c.loop-i.invariant.rising
    (no_child_no_tree _ _ _ _ _ _ _ _ c.loop-i.invariant.same c.in_ok-node.ensures.node (sym c.in-Inner.ensures) c.child_at-child.ensures (omega arith))
    c.in_err-some_below-in-Inner-2.ensures.refusal)

pub loop-i-preserved : goal.loop-i-preserved
loop-i-preserved g t c = record {
  same = c.in_ok-some_below-in-Inner-2.ensures.same ∙ c.loop-i.invariant.same;
  stays = one_further _ _ _ _ _ _ _ _ (child_taken _ _ _ _ _ (c.loop-i.i + 1) c.args.start c.args.key.now c.args.most c.args.found.now c.loop-i.found
      c.loop-i.invariant.same c.in_ok-node.ensures.node (sym c.in-Inner.ensures) (omega arith) c.child_at-child.ensures
      c.some_below-in-loop-i.new.found c.loop-i.invariant.stays c.in_ok-some_below-in-Inner-2.ensures.taken);
  few = c.in_ok-some_below-in-Inner-2.ensures.few;
  whole = λ w. c.in_ok-some_below-in-Inner-2.ensures.whole (c.loop-i.invariant.whole w);
  rising = omega (arith, c.loop-i.invariant.rising, c.in_ok-some_below-in-Inner-2.ensures.rising);
  follows = g.met.R.PageReader.follows_trans _ _ _ c.loop-i.invariant.follows c.in_ok-some_below-in-Inner-2.ensures.follows;
}

pub returns-after-loop-i-clause-taken : goal.returns-after-loop-i-clause-taken
returns-after-loop-i-clause-taken g t c =
    taken_inner _ _ _ c.loop-i.i c.args.start c.args.key.now c.args.most c.args.found.now c.loop-i.found c.in_ok-node.ensures.node (sym c.in-Inner.ensures)
    (omega (arith, c.loop-i-test.false, c.loop-i.auto.i-end, c.len-i-end.ensures.length)) c.loop-i.invariant.stays

pub returns-in_err-node-clause-taken : goal.returns-in_err-node-clause-taken
returns-in_err-node-clause-taken g t c = λ d s lo hi under. never_ok c.from_residual.result _ _ c.from_residual.ensures.1

pub returns-in_err-node-clause-few : goal.returns-in_err-node-clause-few
returns-in_err-node-clause-few g t c = never_ok c.from_residual.result _ _ c.from_residual.ensures.1

pub returns-in_err-node-clause-same : goal.returns-in_err-node-clause-same
returns-in_err-node-clause-same g t c = c.read_node.ensures.same

pub returns-in_err-node-clause-whole : goal.returns-in_err-node-clause-whole
returns-in_err-node-clause-whole g t c = c.read_node.ensures.whole

pub returns-in_err-node-clause-rising : goal.returns-in_err-node-clause-rising
returns-in_err-node-clause-rising g t c = c.read_node.ensures.rising

pub returns-in_err-node-clause-follows : goal.returns-in_err-node-clause-follows
returns-in_err-node-clause-follows g t c = c.read_node.ensures.follows

pub returns-in_err-take_from-in-Leaf-clause-taken : goal.returns-in_err-take_from-in-Leaf-clause-taken
returns-in_err-take_from-in-Leaf-clause-taken g t c = λ d s lo hi under. never_ok c.from_residual-in_err-take_from-in-Leaf.result _ _ c.from_residual-in_err-take_from-in-Leaf.ensures.1

pub returns-in_err-take_from-in-Leaf-clause-few : goal.returns-in_err-take_from-in-Leaf-clause-few
returns-in_err-take_from-in-Leaf-clause-few g t c = never_ok c.from_residual-in_err-take_from-in-Leaf.result _ _ c.from_residual-in_err-take_from-in-Leaf.ensures.1

pub returns-in_err-take_from-in-Leaf-clause-same : goal.returns-in_err-take_from-in-Leaf-clause-same
returns-in_err-take_from-in-Leaf-clause-same g t c = c.read_node.ensures.same

pub returns-in_err-take_from-in-Leaf-clause-whole : goal.returns-in_err-take_from-in-Leaf-clause-whole
returns-in_err-take_from-in-Leaf-clause-whole g t c = c.read_node.ensures.whole

pub returns-in_err-take_from-in-Leaf-clause-rising : goal.returns-in_err-take_from-in-Leaf-clause-rising
returns-in_err-take_from-in-Leaf-clause-rising g t c = c.read_node.ensures.rising

pub returns-in_err-take_from-in-Leaf-clause-follows : goal.returns-in_err-take_from-in-Leaf-clause-follows
returns-in_err-take_from-in-Leaf-clause-follows g t c = c.read_node.ensures.follows

pub returns-in_err-some_below-in-Inner-clause-taken : goal.returns-in_err-some_below-in-Inner-clause-taken
returns-in_err-some_below-in-Inner-clause-taken g t c = λ d s lo hi under. never_ok c.from_residual-in_err-some_below-in-Inner.result _ _ c.from_residual-in_err-some_below-in-Inner.ensures.1

pub returns-in_err-some_below-in-Inner-clause-few : goal.returns-in_err-some_below-in-Inner-clause-few
returns-in_err-some_below-in-Inner-clause-few g t c = never_ok c.from_residual-in_err-some_below-in-Inner.result _ _ c.from_residual-in_err-some_below-in-Inner.ensures.1

pub returns-in_err-some_below-in-Inner-clause-same : goal.returns-in_err-some_below-in-Inner-clause-same
returns-in_err-some_below-in-Inner-clause-same g t c = c.some_below.ensures.same ∙ c.read_node.ensures.same

pub returns-in_err-some_below-in-Inner-clause-whole : goal.returns-in_err-some_below-in-Inner-clause-whole
returns-in_err-some_below-in-Inner-clause-whole g t c = λ w. c.some_below.ensures.whole (c.read_node.ensures.whole w)

pub returns-in_err-some_below-in-Inner-clause-rising : goal.returns-in_err-some_below-in-Inner-clause-rising
returns-in_err-some_below-in-Inner-clause-rising g t c = le_trans c.read_node.ensures.rising c.some_below.ensures.rising

pub returns-in_err-some_below-in-Inner-clause-follows : goal.returns-in_err-some_below-in-Inner-clause-follows
returns-in_err-some_below-in-Inner-clause-follows g t c = g.met.R.PageReader.follows_trans _ _ _ c.read_node.ensures.follows c.some_below.ensures.follows

pub returns-in_err-some_below-in-Inner-2-clause-taken : goal.returns-in_err-some_below-in-Inner-2-clause-taken
returns-in_err-some_below-in-Inner-2-clause-taken g t c = λ d s lo hi under. never_ok c.from_residual-in_err-some_below-in-Inner-2.result _ _ c.from_residual-in_err-some_below-in-Inner-2.ensures.1

pub returns-in_err-some_below-in-Inner-2-clause-few : goal.returns-in_err-some_below-in-Inner-2-clause-few
returns-in_err-some_below-in-Inner-2-clause-few g t c = never_ok c.from_residual-in_err-some_below-in-Inner-2.result _ _ c.from_residual-in_err-some_below-in-Inner-2.ensures.1

pub returns-in_err-some_below-in-Inner-2-clause-same : goal.returns-in_err-some_below-in-Inner-2-clause-same
returns-in_err-some_below-in-Inner-2-clause-same g t c = c.some_below-in-loop-i.ensures.same ∙ c.loop-i.invariant.same

pub returns-in_err-some_below-in-Inner-2-clause-whole : goal.returns-in_err-some_below-in-Inner-2-clause-whole
returns-in_err-some_below-in-Inner-2-clause-whole g t c = λ w. c.some_below-in-loop-i.ensures.whole (c.loop-i.invariant.whole w)

pub returns-in_err-some_below-in-Inner-2-clause-rising : goal.returns-in_err-some_below-in-Inner-2-clause-rising
returns-in_err-some_below-in-Inner-2-clause-rising g t c = le_trans c.loop-i.invariant.rising c.some_below-in-loop-i.ensures.rising

pub returns-in_err-some_below-in-Inner-2-clause-follows : goal.returns-in_err-some_below-in-Inner-2-clause-follows
returns-in_err-some_below-in-Inner-2-clause-follows g t c = g.met.R.PageReader.follows_trans _ _ _ c.loop-i.invariant.follows c.some_below-in-loop-i.ensures.follows

pub returns-in_err-take_from-in-Leaf-clause-refusal : goal.returns-in_err-take_from-in-Leaf-clause-refusal
returns-in_err-take_from-in-Leaf-clause-refusal g t c = memory_passed c.from_residual-in_err-take_from-in-Leaf.result _ _ _ c.from_residual-in_err-take_from-in-Leaf.ensures.1

pub returns-then-levels-eq0-clause-taken : goal.returns-then-levels-eq0-clause-taken
returns-then-levels-eq0-clause-taken g t c = λ d s lo hi under. tt

pub returns-then-levels-eq0-clause-few : goal.returns-then-levels-eq0-clause-few
returns-then-levels-eq0-clause-few g t c = tt

pub returns-then-levels-eq0-clause-same : goal.returns-then-levels-eq0-clause-same
returns-then-levels-eq0-clause-same g t c = c.read_node.ensures.same

pub returns-then-levels-eq0-clause-whole : goal.returns-then-levels-eq0-clause-whole
returns-then-levels-eq0-clause-whole g t c = c.read_node.ensures.whole

pub returns-then-levels-eq0-clause-rising : goal.returns-then-levels-eq0-clause-rising
returns-then-levels-eq0-clause-rising g t c = c.read_node.ensures.rising

pub returns-then-levels-eq0-clause-follows : goal.returns-then-levels-eq0-clause-follows
returns-then-levels-eq0-clause-follows g t c = c.read_node.ensures.follows

pub returns-in_ok-take_from-in-Leaf-clause-few : goal.returns-in_ok-take_from-in-Leaf-clause-few
returns-in_ok-take_from-in-Leaf-clause-few g t c = c.in_ok-take_from-in-Leaf.ensures.few

pub returns-in_ok-take_from-in-Leaf-clause-refusal : goal.returns-in_ok-take_from-in-Leaf-clause-refusal
returns-in_ok-take_from-in-Leaf-clause-refusal g t c = tt

pub returns-in_ok-take_from-in-Leaf-clause-same : goal.returns-in_ok-take_from-in-Leaf-clause-same
returns-in_ok-take_from-in-Leaf-clause-same g t c = c.read_node.ensures.same

pub returns-in_ok-take_from-in-Leaf-clause-whole : goal.returns-in_ok-take_from-in-Leaf-clause-whole
returns-in_ok-take_from-in-Leaf-clause-whole g t c = c.read_node.ensures.whole

pub returns-in_ok-take_from-in-Leaf-clause-rising : goal.returns-in_ok-take_from-in-Leaf-clause-rising
returns-in_ok-take_from-in-Leaf-clause-rising g t c = c.read_node.ensures.rising

pub returns-in_ok-take_from-in-Leaf-clause-follows : goal.returns-in_ok-take_from-in-Leaf-clause-follows
returns-in_ok-take_from-in-Leaf-clause-follows g t c = c.read_node.ensures.follows

pub returns-after-loop-i-clause-few : goal.returns-after-loop-i-clause-few
returns-after-loop-i-clause-few g t c = c.loop-i.invariant.few

pub returns-after-loop-i-clause-refusal : goal.returns-after-loop-i-clause-refusal
returns-after-loop-i-clause-refusal g t c = tt

pub returns-after-loop-i-clause-same : goal.returns-after-loop-i-clause-same
returns-after-loop-i-clause-same g t c = c.loop-i.invariant.same

pub returns-after-loop-i-clause-whole : goal.returns-after-loop-i-clause-whole
returns-after-loop-i-clause-whole g t c = c.loop-i.invariant.whole

pub returns-after-loop-i-clause-rising : goal.returns-after-loop-i-clause-rising
returns-after-loop-i-clause-rising g t c = c.loop-i.invariant.rising

pub returns-after-loop-i-clause-follows : goal.returns-after-loop-i-clause-follows
returns-after-loop-i-clause-follows g t c = c.loop-i.invariant.follows

pub returns-then-len-most-clause-taken : goal.returns-then-len-most-clause-taken
returns-then-len-most-clause-taken g t c =
    taken_enough _ _ _ (c.loop-i.i + 1) c.args.start c.args.key.now c.args.most c.args.found.now c.loop-i.found c.in_ok-node.ensures.node (sym c.in-Inner.ensures)
    (omega (arith, c.loop-i-test.true, c.loop-i.auto.i-end, c.len-i-end.ensures.length)) (omega (arith, c.if-len-most.true)) c.loop-i.invariant.stays

pub returns-then-len-most-clause-few : goal.returns-then-len-most-clause-few
returns-then-len-most-clause-few g t c = c.loop-i.invariant.few

pub returns-then-len-most-clause-same : goal.returns-then-len-most-clause-same
returns-then-len-most-clause-same g t c = c.loop-i.invariant.same

pub returns-then-len-most-clause-whole : goal.returns-then-len-most-clause-whole
returns-then-len-most-clause-whole g t c = c.loop-i.invariant.whole

pub returns-then-len-most-clause-refusal : goal.returns-then-len-most-clause-refusal
returns-then-len-most-clause-refusal g t c = tt

pub returns-then-len-most-clause-rising : goal.returns-then-len-most-clause-rising
returns-then-len-most-clause-rising g t c = c.loop-i.invariant.rising

pub returns-then-len-most-clause-follows : goal.returns-then-len-most-clause-follows
returns-then-len-most-clause-follows g t c = c.loop-i.invariant.follows

pub kind-requires : goal.kind-requires
kind-requires g t c = tt

pub first_place-at-requires : goal.first_place-at-requires
first_place-at-requires g t c = tt

pub len-i-end-requires : goal.len-i-end-requires
len-i-end-requires g t c = tt

pub take_from-requires : goal.take_from-requires
take_from-requires g t c = c.requires

pub read_node-requires : goal.read_node-requires
read_node-requires g t c κs = λ h. h

pub child_at-first-requires-clause-inner : goal.child_at-first-requires-clause-inner
child_at-first-requires-clause-inner g t c = sym c.in-Inner.ensures

pub child_at-first-requires-clause-place : goal.child_at-first-requires-clause-place
child_at-first-requires-clause-place g t c = c.first_place-at.ensures.within

pub child_at-child-requires-clause-inner : goal.child_at-child-requires-clause-inner
child_at-child-requires-clause-inner g t c = sym c.in-Inner.ensures

pub child_at-child-requires-clause-place : goal.child_at-child-requires-clause-place
child_at-child-requires-clause-place g t c = omega (arith, c.loop-i-test.true, c.loop-i.auto.i-end, c.len-i-end.ensures.length)

pub overflow_sub-levels : goal.overflow_sub-levels
overflow_sub-levels g t c = omega (arith, c.if-levels-eq0.false)

pub overflow_sub-levels-in-loop-i : goal.overflow_sub-levels-in-loop-i
overflow_sub-levels-in-loop-i g t c = omega (arith, c.if-levels-eq0.false)
