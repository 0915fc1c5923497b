use Rattle.std.proofs.Common.{◌∙◌, le_trans, sym, arith, ℕ, List, Option, Ok}
use Rattle.btree_read.specs.Sorted.{get_of}
use Rattle.btree_read.proofs.NodeLemmas.{harm_weaker, read_refused_on, never_ok, err_passed, memory_passed}
use Rattle.btree_read.proofs.PlaceLemmas.{route_at}
use Rattle.btree_read.proofs.SearchLemmas.{answers_leaf, got_below, no_node_no_tree, no_level_left, no_child_no_tree}
use Rattle.btree_read.proofs.value.+get_below.Goals as goal

pub returns-in_err-node-clause-refusal : goal.returns-in_err-node-clause-refusal
returns-in_err-node-clause-refusal g t c =
    err_passed c.from_residual.result c.in_err-node.field-0.0 _ c.from_residual.ensures.1
    (harm_weaker _ _ _ _ _ (no_node_no_tree _ _ _) c.in_err-node.ensures.refusal)

pub returns-then-levels-eq0-clause-refusal : goal.returns-then-levels-eq0-clause-refusal
returns-then-levels-eq0-clause-refusal g t c = no_level_left _ _ _ _ c.in_ok-node.ensures.node (sym c.in-Inner.ensures) c.if-levels-eq0.true

pub returns-in_ok-value_in-in-Leaf-clause-found : goal.returns-in_ok-value_in-in-Leaf-clause-found
returns-in_ok-value_in-in-Leaf-clause-found g t c = answers_leaf {A = Option (List ℕ)} _ _ _ (get_of c.args.key.now) (Ok c.in_ok-value_in-in-Leaf.field-0) c.in_ok-node.ensures.node (sym c.in-Leaf.ensures) c.in_ok-value_in-in-Leaf.ensures

pub returns-else-levels-eq0-clause-found : goal.returns-else-levels-eq0-clause-found
returns-else-levels-eq0-clause-found g t c =
    got_below _ _ _ _ _ _ _ _ c.in_ok-node.ensures.same c.in_ok-node.ensures.node (sym c.in-Inner.ensures)
    (route_at _ _ _ c.first_place-at.ensures.within c.first_place-at.ensures.before c.first_place-at.ensures.behind) c.child_at-child.ensures c.get_below.ensures.found

pub returns-else-levels-eq0-clause-refusal : goal.returns-else-levels-eq0-clause-refusal
returns-else-levels-eq0-clause-refusal g t c =
    read_refused_on _ _ _ _ _ _ c.in_ok-node.ensures.rising
    (no_child_no_tree _ _ _ _ _ _ _ _ c.in_ok-node.ensures.same c.in_ok-node.ensures.node (sym c.in-Inner.ensures) c.child_at-child.ensures (omega arith)) c.get_below.ensures.refusal

pub returns-in_err-node-clause-found : goal.returns-in_err-node-clause-found
returns-in_err-node-clause-found g t c = λ d s lo hi under. never_ok c.from_residual.result _ _ c.from_residual.ensures.1

pub returns-in_err-node-clause-same : goal.returns-in_err-node-clause-same
returns-in_err-node-clause-same g t c = c.read_node.ensures.same

pub returns-in_err-node-clause-whole : goal.returns-in_err-node-clause-whole
returns-in_err-node-clause-whole g t c = c.read_node.ensures.whole

pub returns-in_err-node-clause-rising : goal.returns-in_err-node-clause-rising
returns-in_err-node-clause-rising g t c = c.read_node.ensures.rising

pub returns-in_err-node-clause-follows : goal.returns-in_err-node-clause-follows
returns-in_err-node-clause-follows g t c = c.read_node.ensures.follows

pub returns-in_err-value_in-in-Leaf-clause-found : goal.returns-in_err-value_in-in-Leaf-clause-found
returns-in_err-value_in-in-Leaf-clause-found g t c = λ d s lo hi under. never_ok c.from_residual-in_err-value_in-in-Leaf.result _ _ c.from_residual-in_err-value_in-in-Leaf.ensures.1

pub returns-in_err-value_in-in-Leaf-clause-refusal : goal.returns-in_err-value_in-in-Leaf-clause-refusal
returns-in_err-value_in-in-Leaf-clause-refusal g t c = memory_passed c.from_residual-in_err-value_in-in-Leaf.result _ _ _ c.from_residual-in_err-value_in-in-Leaf.ensures.1

pub returns-in_err-value_in-in-Leaf-clause-same : goal.returns-in_err-value_in-in-Leaf-clause-same
returns-in_err-value_in-in-Leaf-clause-same g t c = c.read_node.ensures.same

pub returns-in_err-value_in-in-Leaf-clause-whole : goal.returns-in_err-value_in-in-Leaf-clause-whole
returns-in_err-value_in-in-Leaf-clause-whole g t c = c.read_node.ensures.whole

pub returns-in_err-value_in-in-Leaf-clause-rising : goal.returns-in_err-value_in-in-Leaf-clause-rising
returns-in_err-value_in-in-Leaf-clause-rising g t c = c.read_node.ensures.rising

pub returns-in_err-value_in-in-Leaf-clause-follows : goal.returns-in_err-value_in-in-Leaf-clause-follows
returns-in_err-value_in-in-Leaf-clause-follows g t c = c.read_node.ensures.follows

pub returns-then-levels-eq0-clause-found : goal.returns-then-levels-eq0-clause-found
returns-then-levels-eq0-clause-found g t c = λ d s lo hi under. tt

pub returns-then-levels-eq0-clause-same : goal.returns-then-levels-eq0-clause-same
returns-then-levels-eq0-clause-same g t c = c.read_node.ensures.same

pub returns-then-levels-eq0-clause-whole : goal.returns-then-levels-eq0-clause-whole
returns-then-levels-eq0-clause-whole g t c = c.read_node.ensures.whole

pub returns-then-levels-eq0-clause-rising : goal.returns-then-levels-eq0-clause-rising
returns-then-levels-eq0-clause-rising g t c = c.read_node.ensures.rising

pub returns-then-levels-eq0-clause-follows : goal.returns-then-levels-eq0-clause-follows
returns-then-levels-eq0-clause-follows g t c = c.read_node.ensures.follows

pub returns-in_ok-value_in-in-Leaf-clause-refusal : goal.returns-in_ok-value_in-in-Leaf-clause-refusal
returns-in_ok-value_in-in-Leaf-clause-refusal g t c = tt

pub returns-in_ok-value_in-in-Leaf-clause-same : goal.returns-in_ok-value_in-in-Leaf-clause-same
returns-in_ok-value_in-in-Leaf-clause-same g t c = c.read_node.ensures.same

pub returns-in_ok-value_in-in-Leaf-clause-whole : goal.returns-in_ok-value_in-in-Leaf-clause-whole
returns-in_ok-value_in-in-Leaf-clause-whole g t c = c.read_node.ensures.whole

pub returns-in_ok-value_in-in-Leaf-clause-rising : goal.returns-in_ok-value_in-in-Leaf-clause-rising
returns-in_ok-value_in-in-Leaf-clause-rising g t c = c.read_node.ensures.rising

pub returns-in_ok-value_in-in-Leaf-clause-follows : goal.returns-in_ok-value_in-in-Leaf-clause-follows
returns-in_ok-value_in-in-Leaf-clause-follows g t c = c.read_node.ensures.follows

pub returns-else-levels-eq0-clause-same : goal.returns-else-levels-eq0-clause-same
returns-else-levels-eq0-clause-same g t c = c.get_below.ensures.same ∙ c.read_node.ensures.same

pub returns-else-levels-eq0-clause-whole : goal.returns-else-levels-eq0-clause-whole
returns-else-levels-eq0-clause-whole g t c = λ w. c.get_below.ensures.whole (c.read_node.ensures.whole w)

pub returns-else-levels-eq0-clause-rising : goal.returns-else-levels-eq0-clause-rising
returns-else-levels-eq0-clause-rising g t c = le_trans c.read_node.ensures.rising c.get_below.ensures.rising

pub returns-else-levels-eq0-clause-follows : goal.returns-else-levels-eq0-clause-follows
returns-else-levels-eq0-clause-follows g t c = g.met.R.PageReader.follows_trans _ _ _ c.read_node.ensures.follows c.get_below.ensures.follows

pub kind-requires : goal.kind-requires
kind-requires g t c = tt

pub read_node-requires : goal.read_node-requires
read_node-requires g t c κs = λ h. h

pub overflow_sub-levels : goal.overflow_sub-levels
overflow_sub-levels g t c = omega (arith, c.if-levels-eq0.false)

pub child_at-child-requires-clause-inner : goal.child_at-child-requires-clause-inner
child_at-child-requires-clause-inner g t c = sym c.in-Inner.ensures

pub value_in-requires : goal.value_in-requires
value_in-requires g t c = tt

pub first_place-at-requires : goal.first_place-at-requires
first_place-at-requires g t c = tt

pub child_at-child-requires-clause-place : goal.child_at-child-requires-clause-place
child_at-child-requires-clause-place g t c = c.first_place-at.ensures.within
