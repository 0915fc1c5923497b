use Rattle.btree_read.proofs.NodeLemmas.{never_ok, err_passed}
use Rattle.std.proofs.Common.{le_trans, ◌+◌, ◌-◌, sym, arith}
use Rattle.btree_read.proofs.SearchLemmas.{no_level_left}
use Rattle.btree.proofs.RefusalLemmas.{kept_from, change_refused, change_refused_on, read_as_change, both_rise}
use Rattle.btree_remove.proofs.DropLemmas.{dropped_leaf, leaf_not_freed, none_dropped, one_more_dropped, one_more, after_last, child_not_dropped, dropped_inner, inner_not_freed, no_tree_in, no_node_in}
use Rattle.btree_remove.proofs.tree.+drop_below.Goals as goal

pub returns-in_err-node-clause-refusal : goal.returns-in_err-node-clause-refusal
returns-in_err-node-clause-refusal g t c =
    err_passed c.from_residual.result c.in_err-node.field-0.0 _ c.from_residual.ensures.1
    (read_as_change (g.S.PageSpace.at_limit c.read_node.new.space) _ _ _ _ _ (no_node_in _ _ _ _) c.in_err-node.ensures.refusal)

pub returns-then-levels-eq0-clause-refusal : goal.returns-then-levels-eq0-clause-refusal
returns-then-levels-eq0-clause-refusal g t c = no_tree_in _ _ _ _ (no_level_left _ _ _ _ c.in_ok-node.ensures.node (sym c.in-Inner.ensures) c.if-levels-eq0.true)

pub returns-in-Leaf-clause-dropped : goal.returns-in-Leaf-clause-dropped
returns-in-Leaf-clause-dropped g t c = dropped_leaf _ _ _ _ _ _ c.in_ok-node.ensures.same c.in_ok-node.ensures.node (sym c.in-Leaf.ensures) c.free.ensures.freed c.free.ensures.others

pub returns-in-Leaf-clause-refusal : goal.returns-in-Leaf-clause-refusal
returns-in-Leaf-clause-refusal g t c =
    change_refused_on c.free.result (g.S.PageSpace.at_limit c.free.new.self) _ _ (g.S.PageReader.refused c.args.space.now) (g.S.PageReader.refused c.read_node.new.space) (g.S.PageReader.refused c.free.new.self) c.in_ok-node.ensures.rising
    (leaf_not_freed _ _ _ _ (g.S.PageReader.is_whole c.args.space.now) (g.S.PageReader.is_whole c.read_node.new.space) c.in_ok-node.ensures.same c.in_ok-node.ensures.whole) c.free.ensures.refusal

pub returns-in_err-drop_below-in-Inner-clause-refusal : goal.returns-in_err-drop_below-in-Inner-clause-refusal
returns-in_err-drop_below-in-Inner-clause-refusal g t c =
    err_passed c.from_residual-in_err-drop_below-in-Inner.result c.in_err-drop_below-in-Inner.field-0.0 _ c.from_residual-in_err-drop_below-in-Inner.ensures.1
    (change_refused (g.S.PageSpace.at_limit c.drop_below.new.space) _ _ (g.S.PageReader.refused c.args.space.now) (g.S.PageReader.refused c.read_node.new.space) (g.S.PageReader.refused c.drop_below.new.space) _ c.in_ok-node.ensures.rising
    (child_not_dropped _ _ _ _ 0 _ c.in_ok-node.ensures.node (sym c.in-Inner.ensures) (omega arith) c.child_at-first.ensures (none_dropped _ _ _ c.in_ok-node.ensures.same)
    c.args.levels (c.args.levels - 1) (g.S.PageReader.is_whole c.args.space.now) (g.S.PageReader.is_whole c.read_node.new.space) (omega arith) c.in_ok-node.ensures.whole)
    c.in_err-drop_below-in-Inner.ensures.refusal)

pub loop-i-init : goal.loop-i-init
loop-i-init g t c = record {
  stays = one_more_dropped _ _ _ _ 0 _ c.in_ok-node.ensures.node (sym c.in-Inner.ensures) (omega arith) c.child_at-first.ensures (none_dropped _ _ _ c.in_ok-node.ensures.same) _ c.in_ok-drop_below-in-Inner.ensures.dropped;
  whole = λ w. c.in_ok-drop_below-in-Inner.ensures.whole (c.in_ok-node.ensures.whole w);
  rising = both_rise _ _ _ c.in_ok-node.ensures.rising c.in_ok-drop_below-in-Inner.ensures.rising;
  follows = g.met.S.PageReader.follows_trans _ _ _ c.in_ok-node.ensures.follows c.in_ok-drop_below-in-Inner.ensures.follows;
}

pub returns-in_err-drop_below-in-Inner-2-clause-refusal : goal.returns-in_err-drop_below-in-Inner-2-clause-refusal
returns-in_err-drop_below-in-Inner-2-clause-refusal g t c =
    err_passed c.from_residual-in_err-drop_below-in-Inner-2.result c.in_err-drop_below-in-Inner-2.field-0.0 _ c.from_residual-in_err-drop_below-in-Inner-2.ensures.1
    (change_refused (g.S.PageSpace.at_limit c.drop_below-in-loop-i.new.space) _ _ (g.S.PageReader.refused c.args.space.now) (g.S.PageReader.refused c.loop-i.space) (g.S.PageReader.refused c.drop_below-in-loop-i.new.space) _ c.loop-i.invariant.rising
    (child_not_dropped _ _ _ _ (c.loop-i.i + 1) _ c.in_ok-node.ensures.node (sym c.in-Inner.ensures) (omega arith) c.child_at-child.ensures c.loop-i.invariant.stays
    c.args.levels (c.args.levels - 1) (g.S.PageReader.is_whole c.args.space.now) (g.S.PageReader.is_whole c.loop-i.space) (omega arith) c.loop-i.invariant.whole)
    c.in_err-drop_below-in-Inner-2.ensures.refusal)

pub loop-i-preserved : goal.loop-i-preserved
loop-i-preserved g t c = record {
  stays = one_more _ _ _ _ (one_more_dropped _ _ _ _ _ _ c.in_ok-node.ensures.node (sym c.in-Inner.ensures) (omega arith) c.child_at-child.ensures c.loop-i.invariant.stays _ c.in_ok-drop_below-in-Inner-2.ensures.dropped);
  whole = λ w. c.in_ok-drop_below-in-Inner-2.ensures.whole (c.loop-i.invariant.whole w);
  rising = both_rise _ _ _ c.loop-i.invariant.rising c.in_ok-drop_below-in-Inner-2.ensures.rising;
  follows = g.met.S.PageReader.follows_trans _ _ _ c.loop-i.invariant.follows c.in_ok-drop_below-in-Inner-2.ensures.follows;
}

pub returns-after-loop-i-clause-dropped : goal.returns-after-loop-i-clause-dropped
returns-after-loop-i-clause-dropped g t c =
    dropped_inner _ _ _ _ c.loop-i.i c.in_ok-node.ensures.node (sym c.in-Inner.ensures) (omega (arith, c.loop-i-test.false, c.loop-i.auto.i-end, c.len-i-end.ensures.length))
    (after_last _ _ _ _ c.loop-i.invariant.stays) _ _ c.free-in-Inner.ensures.freed c.free-in-Inner.ensures.others

pub returns-after-loop-i-clause-refusal : goal.returns-after-loop-i-clause-refusal
returns-after-loop-i-clause-refusal g t c =
    change_refused_on c.free-in-Inner.result (g.S.PageSpace.at_limit c.free-in-Inner.new.self) _ _ (g.S.PageReader.refused c.args.space.now) (g.S.PageReader.refused c.loop-i.space) (g.S.PageReader.refused c.free-in-Inner.new.self) c.loop-i.invariant.rising
    (inner_not_freed _ _ _ _ c.loop-i.i c.in_ok-node.ensures.node (sym c.in-Inner.ensures) (omega (arith, c.loop-i-test.false, c.loop-i.auto.i-end, c.len-i-end.ensures.length))
    (after_last _ _ _ _ c.loop-i.invariant.stays) c.args.levels (g.S.PageReader.is_whole c.args.space.now) (g.S.PageReader.is_whole c.loop-i.space) c.loop-i.invariant.whole) c.free-in-Inner.ensures.refusal

pub returns-in_err-node-clause-dropped : goal.returns-in_err-node-clause-dropped
returns-in_err-node-clause-dropped g t c = λ d s lo hi under. never_ok c.from_residual.result _ _ c.from_residual.ensures.1

pub returns-in_err-node-clause-whole : goal.returns-in_err-node-clause-whole
returns-in_err-node-clause-whole g t c = never_ok c.from_residual.result _ _ c.from_residual.ensures.1

pub returns-in_err-node-clause-rising : goal.returns-in_err-node-clause-rising
returns-in_err-node-clause-rising g t c = c.read_node.ensures.rising

pub returns-in_err-node-clause-follows : goal.returns-in_err-node-clause-follows
returns-in_err-node-clause-follows g t c = c.read_node.ensures.follows

pub returns-in-Leaf-clause-whole : goal.returns-in-Leaf-clause-whole
returns-in-Leaf-clause-whole g t c = kept_from c.free.result _ _ _ c.read_node.ensures.whole c.free.ensures.whole

pub returns-in-Leaf-clause-rising : goal.returns-in-Leaf-clause-rising
returns-in-Leaf-clause-rising g t c = le_trans c.read_node.ensures.rising c.free.ensures.rising

pub returns-in-Leaf-clause-follows : goal.returns-in-Leaf-clause-follows
returns-in-Leaf-clause-follows g t c = g.met.S.PageReader.follows_trans _ _ _ c.read_node.ensures.follows c.free.ensures.follows

pub returns-then-levels-eq0-clause-dropped : goal.returns-then-levels-eq0-clause-dropped
returns-then-levels-eq0-clause-dropped g t c = λ d s lo hi under. tt

pub returns-then-levels-eq0-clause-whole : goal.returns-then-levels-eq0-clause-whole
returns-then-levels-eq0-clause-whole g t c = tt

pub returns-then-levels-eq0-clause-rising : goal.returns-then-levels-eq0-clause-rising
returns-then-levels-eq0-clause-rising g t c = c.read_node.ensures.rising

pub returns-then-levels-eq0-clause-follows : goal.returns-then-levels-eq0-clause-follows
returns-then-levels-eq0-clause-follows g t c = c.read_node.ensures.follows

pub returns-in_err-drop_below-in-Inner-clause-dropped : goal.returns-in_err-drop_below-in-Inner-clause-dropped
returns-in_err-drop_below-in-Inner-clause-dropped g t c = λ d s lo hi under. never_ok c.from_residual-in_err-drop_below-in-Inner.result _ _ c.from_residual-in_err-drop_below-in-Inner.ensures.1

pub returns-in_err-drop_below-in-Inner-clause-whole : goal.returns-in_err-drop_below-in-Inner-clause-whole
returns-in_err-drop_below-in-Inner-clause-whole g t c = never_ok c.from_residual-in_err-drop_below-in-Inner.result _ _ c.from_residual-in_err-drop_below-in-Inner.ensures.1

pub returns-in_err-drop_below-in-Inner-clause-rising : goal.returns-in_err-drop_below-in-Inner-clause-rising
returns-in_err-drop_below-in-Inner-clause-rising g t c = le_trans c.read_node.ensures.rising c.drop_below.ensures.rising

pub returns-in_err-drop_below-in-Inner-clause-follows : goal.returns-in_err-drop_below-in-Inner-clause-follows
returns-in_err-drop_below-in-Inner-clause-follows g t c = g.met.S.PageReader.follows_trans _ _ _ c.read_node.ensures.follows c.drop_below.ensures.follows

pub returns-in_err-drop_below-in-Inner-2-clause-dropped : goal.returns-in_err-drop_below-in-Inner-2-clause-dropped
returns-in_err-drop_below-in-Inner-2-clause-dropped g t c = λ d s lo hi under. never_ok c.from_residual-in_err-drop_below-in-Inner-2.result _ _ c.from_residual-in_err-drop_below-in-Inner-2.ensures.1

pub returns-in_err-drop_below-in-Inner-2-clause-whole : goal.returns-in_err-drop_below-in-Inner-2-clause-whole
returns-in_err-drop_below-in-Inner-2-clause-whole g t c = never_ok c.from_residual-in_err-drop_below-in-Inner-2.result _ _ c.from_residual-in_err-drop_below-in-Inner-2.ensures.1

pub returns-in_err-drop_below-in-Inner-2-clause-rising : goal.returns-in_err-drop_below-in-Inner-2-clause-rising
returns-in_err-drop_below-in-Inner-2-clause-rising g t c = le_trans c.loop-i.invariant.rising c.drop_below-in-loop-i.ensures.rising

pub returns-in_err-drop_below-in-Inner-2-clause-follows : goal.returns-in_err-drop_below-in-Inner-2-clause-follows
returns-in_err-drop_below-in-Inner-2-clause-follows g t c = g.met.S.PageReader.follows_trans _ _ _ c.loop-i.invariant.follows c.drop_below-in-loop-i.ensures.follows

pub returns-after-loop-i-clause-whole : goal.returns-after-loop-i-clause-whole
returns-after-loop-i-clause-whole g t c = kept_from c.free-in-Inner.result _ _ _ c.loop-i.invariant.whole c.free-in-Inner.ensures.whole

pub returns-after-loop-i-clause-rising : goal.returns-after-loop-i-clause-rising
returns-after-loop-i-clause-rising g t c = le_trans c.loop-i.invariant.rising c.free-in-Inner.ensures.rising

pub returns-after-loop-i-clause-follows : goal.returns-after-loop-i-clause-follows
returns-after-loop-i-clause-follows g t c = g.met.S.PageReader.follows_trans _ _ _ c.loop-i.invariant.follows c.free-in-Inner.ensures.follows

pub child_at-first-requires-clause-inner : goal.child_at-first-requires-clause-inner
child_at-first-requires-clause-inner g t c = sym c.in-Inner.ensures

pub child_at-child-requires-clause-inner : goal.child_at-child-requires-clause-inner
child_at-child-requires-clause-inner g t c = sym c.in-Inner.ensures

pub child_at-child-requires-clause-place : goal.child_at-child-requires-clause-place
child_at-child-requires-clause-place g t c = omega (arith, c.loop-i-test.true, c.loop-i.auto.i-end, c.len-i-end.ensures.length)

pub overflow_sub-levels : goal.overflow_sub-levels
overflow_sub-levels g t c = omega (arith, c.if-levels-eq0.false)

pub overflow_sub-levels-in-loop-i : goal.overflow_sub-levels-in-loop-i
overflow_sub-levels-in-loop-i g t c = omega (arith, c.if-levels-eq0.false)

pub kind-requires : goal.kind-requires
kind-requires g t c = tt

pub len-i-end-requires : goal.len-i-end-requires
len-i-end-requires g t c = tt

pub read_node-requires : goal.read_node-requires
read_node-requires g t c κs = λ h. h
