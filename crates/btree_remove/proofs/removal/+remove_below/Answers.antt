use Rattle.btree_read.proofs.NodeLemmas.{never_ok, err_passed}
use Rattle.std.proofs.Common.{le_trans, ◌-◌, sym, arith}
use Rattle.btree_read.proofs.PlaceLemmas.{route_at}
use Rattle.btree_read.proofs.SearchLemmas.{no_level_left}
use Rattle.btree.proofs.RefusalLemmas.{kept_from, both_rise, change_refused, change_refused_on, read_as_change}
use Rattle.btree_remove.proofs.BelowLemmas.{leaf_not_taken, child_not_taken, taken_settled, below_not_settled}
use Rattle.btree_remove.proofs.DropLemmas.{no_tree_in, no_node_in}
use Rattle.btree_remove.proofs.StepLemmas.{taken_of_leaf}
use Rattle.btree_remove.proofs.removal.+remove_below.Goals as goal

pub returns-in_err-node-clause-refusal : goal.returns-in_err-node-clause-refusal
returns-in_err-node-clause-refusal g t c =
    err_passed c.from_residual.result c.in_err-node.field-0.0 _ c.from_residual.ensures.1
    (read_as_change (g.S.PageSpace.at_limit c.read_node.new.space) _ _ _ _ _ (no_node_in _ _ _ _) c.in_err-node.ensures.refusal)

pub returns-then-levels-eq0-clause-refusal : goal.returns-then-levels-eq0-clause-refusal
returns-then-levels-eq0-clause-refusal g t c = no_tree_in _ _ _ _ (no_level_left _ _ _ _ c.in_ok-node.ensures.node (sym c.in-Inner.ensures) c.if-levels-eq0.true)

pub returns-in-Leaf-clause-taken : goal.returns-in-Leaf-clause-taken
returns-in-Leaf-clause-taken g t c =
    taken_of_leaf _ _ _ _ _ _ _ c.in_ok-node.ensures.same c.in_ok-node.ensures.node (sym c.in-Leaf.ensures) c.take_from_leaf.ensures.taken

pub returns-in-Leaf-clause-refusal : goal.returns-in-Leaf-clause-refusal
returns-in-Leaf-clause-refusal g t c =
    change_refused_on c.take_from_leaf.result (g.S.PageSpace.at_limit c.take_from_leaf.new.space) _ _ (g.S.PageReader.refused c.args.space.now) (g.S.PageReader.refused c.read_node.new.space) (g.S.PageReader.refused c.take_from_leaf.new.space)
    c.in_ok-node.ensures.rising (leaf_not_taken _ _ _ _ (g.S.PageReader.is_whole c.args.space.now) c.in_ok-node.ensures.same) c.take_from_leaf.ensures.refusal

pub returns-in_err-below-in-Inner-clause-refusal : goal.returns-in_err-below-in-Inner-clause-refusal
returns-in_err-below-in-Inner-clause-refusal g t c =
    err_passed c.from_residual-in_err-below-in-Inner.result c.in_err-below-in-Inner.field-0.0 _ c.from_residual-in_err-below-in-Inner.ensures.1
    (change_refused (g.S.PageSpace.at_limit c.remove_below.new.space) _ _ (g.S.PageReader.refused c.args.space.now) (g.S.PageReader.refused c.read_node.new.space) (g.S.PageReader.refused c.remove_below.new.space) _
    c.in_ok-node.ensures.rising
    (child_not_taken _ _ _ _ _ _ c.in_ok-node.ensures.same c.in_ok-node.ensures.node (sym c.in-Inner.ensures) c.child_at-child.ensures
    c.args.levels (c.args.levels - 1) (g.S.PageReader.is_whole c.args.space.now) (g.S.PageReader.is_whole c.read_node.new.space) (omega arith) c.in_ok-node.ensures.whole)
    c.in_err-below-in-Inner.ensures.refusal)

pub returns-in_ok-below-in-Inner-clause-taken : goal.returns-in_ok-below-in-Inner-clause-taken
returns-in_ok-below-in-Inner-clause-taken g t c =
    taken_settled _ _ _ _ _ _ c.in_ok-node.ensures.same c.in_ok-node.ensures.node (sym c.in-Inner.ensures) c.child_at-child.ensures
    _ _ _ _ _ (route_at _ _ _ c.first_place-at.ensures.within c.first_place-at.ensures.before c.first_place-at.ensures.behind) c.in_ok-below-in-Inner.ensures.taken c.settle.ensures.settles

pub returns-in_ok-below-in-Inner-clause-refusal : goal.returns-in_ok-below-in-Inner-clause-refusal
returns-in_ok-below-in-Inner-clause-refusal g t c =
    change_refused_on c.settle.result (g.S.PageSpace.at_limit c.settle.new.space) _ _ (g.S.PageReader.refused c.args.space.now) (g.S.PageReader.refused c.remove_below.new.space) (g.S.PageReader.refused c.settle.new.space)
    (both_rise _ _ _ c.in_ok-node.ensures.rising c.in_ok-below-in-Inner.ensures.rising)
    (below_not_settled _ _ _ _ _ _ c.in_ok-node.ensures.same c.in_ok-node.ensures.node (sym c.in-Inner.ensures) c.child_at-child.ensures
    _ _ _ c.args.levels (g.S.PageReader.is_whole c.args.space.now) (g.S.PageReader.is_whole c.remove_below.new.space)
    (route_at _ _ _ c.first_place-at.ensures.within c.first_place-at.ensures.before c.first_place-at.ensures.behind) c.in_ok-below-in-Inner.ensures.taken
    (λ w. c.in_ok-below-in-Inner.ensures.whole (c.in_ok-node.ensures.whole w))) c.settle.ensures.refusal

pub returns-in_err-node-clause-taken : goal.returns-in_err-node-clause-taken
returns-in_err-node-clause-taken g t c = λ d s lo hi under. never_ok c.from_residual.result _ _ c.from_residual.ensures.1

pub returns-in_err-node-clause-small : goal.returns-in_err-node-clause-small
returns-in_err-node-clause-small g t c = never_ok c.from_residual.result _ _ c.from_residual.ensures.1

pub returns-in_err-node-clause-whole : goal.returns-in_err-node-clause-whole
returns-in_err-node-clause-whole g t c = never_ok c.from_residual.result _ _ c.from_residual.ensures.1

pub returns-in_err-node-clause-rising : goal.returns-in_err-node-clause-rising
returns-in_err-node-clause-rising g t c = c.read_node.ensures.rising

pub returns-in_err-node-clause-follows : goal.returns-in_err-node-clause-follows
returns-in_err-node-clause-follows g t c = c.read_node.ensures.follows

pub returns-in-Leaf-clause-small : goal.returns-in-Leaf-clause-small
returns-in-Leaf-clause-small g t c = c.take_from_leaf.ensures.small

pub returns-in-Leaf-clause-whole : goal.returns-in-Leaf-clause-whole
returns-in-Leaf-clause-whole g t c = kept_from c.take_from_leaf.result _ _ _ c.read_node.ensures.whole c.take_from_leaf.ensures.whole

pub returns-in-Leaf-clause-rising : goal.returns-in-Leaf-clause-rising
returns-in-Leaf-clause-rising g t c = le_trans c.read_node.ensures.rising c.take_from_leaf.ensures.rising

pub returns-in-Leaf-clause-follows : goal.returns-in-Leaf-clause-follows
returns-in-Leaf-clause-follows g t c = g.met.S.PageReader.follows_trans _ _ _ c.read_node.ensures.follows c.take_from_leaf.ensures.follows

pub returns-then-levels-eq0-clause-taken : goal.returns-then-levels-eq0-clause-taken
returns-then-levels-eq0-clause-taken g t c = λ d s lo hi under. tt

pub returns-then-levels-eq0-clause-small : goal.returns-then-levels-eq0-clause-small
returns-then-levels-eq0-clause-small g t c = tt

pub returns-then-levels-eq0-clause-whole : goal.returns-then-levels-eq0-clause-whole
returns-then-levels-eq0-clause-whole g t c = tt

pub returns-then-levels-eq0-clause-rising : goal.returns-then-levels-eq0-clause-rising
returns-then-levels-eq0-clause-rising g t c = c.read_node.ensures.rising

pub returns-then-levels-eq0-clause-follows : goal.returns-then-levels-eq0-clause-follows
returns-then-levels-eq0-clause-follows g t c = c.read_node.ensures.follows

pub returns-in_err-below-in-Inner-clause-taken : goal.returns-in_err-below-in-Inner-clause-taken
returns-in_err-below-in-Inner-clause-taken g t c = λ d s lo hi under. never_ok c.from_residual-in_err-below-in-Inner.result _ _ c.from_residual-in_err-below-in-Inner.ensures.1

pub returns-in_err-below-in-Inner-clause-small : goal.returns-in_err-below-in-Inner-clause-small
returns-in_err-below-in-Inner-clause-small g t c = never_ok c.from_residual-in_err-below-in-Inner.result _ _ c.from_residual-in_err-below-in-Inner.ensures.1

pub returns-in_err-below-in-Inner-clause-whole : goal.returns-in_err-below-in-Inner-clause-whole
returns-in_err-below-in-Inner-clause-whole g t c = never_ok c.from_residual-in_err-below-in-Inner.result _ _ c.from_residual-in_err-below-in-Inner.ensures.1

pub returns-in_err-below-in-Inner-clause-rising : goal.returns-in_err-below-in-Inner-clause-rising
returns-in_err-below-in-Inner-clause-rising g t c = le_trans c.read_node.ensures.rising c.remove_below.ensures.rising

pub returns-in_err-below-in-Inner-clause-follows : goal.returns-in_err-below-in-Inner-clause-follows
returns-in_err-below-in-Inner-clause-follows g t c = g.met.S.PageReader.follows_trans _ _ _ c.read_node.ensures.follows c.remove_below.ensures.follows

pub returns-in_ok-below-in-Inner-clause-small : goal.returns-in_ok-below-in-Inner-clause-small
returns-in_ok-below-in-Inner-clause-small g t c = c.settle.ensures.small

pub returns-in_ok-below-in-Inner-clause-whole : goal.returns-in_ok-below-in-Inner-clause-whole
returns-in_ok-below-in-Inner-clause-whole g t c = kept_from c.settle.result _ _ _ (λ w. c.in_ok-below-in-Inner.ensures.whole (c.read_node.ensures.whole w)) c.settle.ensures.whole

pub returns-in_ok-below-in-Inner-clause-rising : goal.returns-in_ok-below-in-Inner-clause-rising
returns-in_ok-below-in-Inner-clause-rising g t c = le_trans (le_trans c.read_node.ensures.rising c.remove_below.ensures.rising) c.settle.ensures.rising

pub returns-in_ok-below-in-Inner-clause-follows : goal.returns-in_ok-below-in-Inner-clause-follows
returns-in_ok-below-in-Inner-clause-follows g t c = g.met.S.PageReader.follows_trans _ _ _ (g.met.S.PageReader.follows_trans _ _ _ c.read_node.ensures.follows c.remove_below.ensures.follows) c.settle.ensures.follows

pub child_at-child-requires-clause-inner : goal.child_at-child-requires-clause-inner
child_at-child-requires-clause-inner g t c = sym c.in-Inner.ensures

pub child_at-child-requires-clause-place : goal.child_at-child-requires-clause-place
child_at-child-requires-clause-place g t c = c.first_place-at.ensures.within

pub overflow_sub-levels : goal.overflow_sub-levels
overflow_sub-levels g t c = omega (arith, c.if-levels-eq0.false)

pub kind-requires : goal.kind-requires
kind-requires g t c = tt

pub first_place-at-requires : goal.first_place-at-requires
first_place-at-requires g t c = tt

pub read_node-requires : goal.read_node-requires
read_node-requires g t c κs = λ h. h
