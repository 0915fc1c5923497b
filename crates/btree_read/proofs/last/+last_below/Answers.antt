use Rattle.std.proofs.Common.{◌∙◌, le_trans, sym, arith, Option, Ok}
use Rattle.btree_read.specs.Nodes.{Key}
use Rattle.btree_read.specs.Sorted.{last_key}
use Rattle.btree_read.proofs.NodeLemmas.{harm_weaker, read_refused_on, never_ok, err_passed, memory_passed}
use Rattle.btree_read.proofs.SearchLemmas.{answers_leaf, no_node_no_tree, no_level_left, no_child_no_tree}
use Rattle.btree_read.proofs.LastLemmas.{last_found}
use Rattle.btree_read.proofs.last.+last_below.Goals as goal

pub returns-in_err-node-clause-refusal : goal.returns-in_err-node-clause-refusal
returns-in_err-node-clause-refusal g t c =
    err_passed c.from_residual.result c.in_err-node.field-0.0 _ c.from_residual.ensures.1
    (harm_weaker _ _ _ _ _ (no_node_no_tree _ _ _) c.in_err-node.ensures.refusal)

pub returns-then-levels-eq0-clause-refusal : goal.returns-then-levels-eq0-clause-refusal
returns-then-levels-eq0-clause-refusal g t c = no_level_left _ _ _ _ c.in_ok-node.ensures.node (sym c.in-Inner.ensures) c.if-levels-eq0.true

pub returns-in_ok-key_in-in-Leaf-clause-found : goal.returns-in_ok-key_in-in-Leaf-clause-found
returns-in_ok-key_in-in-Leaf-clause-found g t c =
    answers_leaf {A = Option Key} _ _ _ last_key (Ok c.in_ok-key_in-in-Leaf.field-0) c.in_ok-node.ensures.node (sym c.in-Leaf.ensures) c.in_ok-key_in-in-Leaf.ensures

pub returns-else-levels-eq0-clause-found : goal.returns-else-levels-eq0-clause-found
returns-else-levels-eq0-clause-found g t c =
    last_found _ _ _ _ _ _ _ c.in_ok-node.ensures.same c.in_ok-node.ensures.node (sym c.in-Inner.ensures) c.len.ensures.length c.child_at-child.ensures c.last_below.ensures.found

pub returns-else-levels-eq0-clause-refusal : goal.returns-else-levels-eq0-clause-refusal
returns-else-levels-eq0-clause-refusal g t c =
    read_refused_on _ _ _ _ _ _ c.in_ok-node.ensures.rising
    (no_child_no_tree _ _ _ _ _ _ _ _ c.in_ok-node.ensures.same c.in_ok-node.ensures.node (sym c.in-Inner.ensures) c.child_at-child.ensures (omega arith))
    c.last_below.ensures.refusal

pub returns-in_err-node-clause-found : goal.returns-in_err-node-clause-found
returns-in_err-node-clause-found g t c = λ d s lo hi under. never_ok c.from_residual.result _ _ c.from_residual.ensures.1

pub returns-in_err-node-clause-same : goal.returns-in_err-node-clause-same
returns-in_err-node-clause-same g t c = c.read_node.ensures.same

pub returns-in_err-node-clause-whole : goal.returns-in_err-node-clause-whole
returns-in_err-node-clause-whole g t c = c.read_node.ensures.whole

pub returns-in_err-node-clause-rising : goal.returns-in_err-node-clause-rising
returns-in_err-node-clause-rising g t c = c.read_node.ensures.rising

pub returns-in_err-node-clause-follows : goal.returns-in_err-node-clause-follows
returns-in_err-node-clause-follows g t c = c.read_node.ensures.follows

pub returns-in_err-key_in-in-Leaf-clause-found : goal.returns-in_err-key_in-in-Leaf-clause-found
returns-in_err-key_in-in-Leaf-clause-found g t c = λ d s lo hi under. never_ok c.from_residual-in_err-key_in-in-Leaf.result _ _ c.from_residual-in_err-key_in-in-Leaf.ensures.1

pub returns-in_err-key_in-in-Leaf-clause-refusal : goal.returns-in_err-key_in-in-Leaf-clause-refusal
returns-in_err-key_in-in-Leaf-clause-refusal g t c = memory_passed c.from_residual-in_err-key_in-in-Leaf.result _ _ _ c.from_residual-in_err-key_in-in-Leaf.ensures.1

pub returns-in_err-key_in-in-Leaf-clause-same : goal.returns-in_err-key_in-in-Leaf-clause-same
returns-in_err-key_in-in-Leaf-clause-same g t c = c.read_node.ensures.same

pub returns-in_err-key_in-in-Leaf-clause-whole : goal.returns-in_err-key_in-in-Leaf-clause-whole
returns-in_err-key_in-in-Leaf-clause-whole g t c = c.read_node.ensures.whole

pub returns-in_err-key_in-in-Leaf-clause-rising : goal.returns-in_err-key_in-in-Leaf-clause-rising
returns-in_err-key_in-in-Leaf-clause-rising g t c = c.read_node.ensures.rising

pub returns-in_err-key_in-in-Leaf-clause-follows : goal.returns-in_err-key_in-in-Leaf-clause-follows
returns-in_err-key_in-in-Leaf-clause-follows g t c = c.read_node.ensures.follows

pub returns-then-levels-eq0-clause-found : goal.returns-then-levels-eq0-clause-found
returns-then-levels-eq0-clause-found g t c = λ d s lo hi under. tt

pub returns-then-levels-eq0-clause-same : goal.returns-then-levels-eq0-clause-same
returns-then-levels-eq0-clause-same g t c = c.read_node.ensures.same

pub returns-then-levels-eq0-clause-whole : goal.returns-then-levels-eq0-clause-whole
returns-then-levels-eq0-clause-whole g t c = c.read_node.ensures.whole

pub returns-then-levels-eq0-clause-rising : goal.returns-then-levels-eq0-clause-rising
returns-then-levels-eq0-clause-rising g t c = c.read_node.ensures.rising

pub returns-then-levels-eq0-clause-follows : goal.returns-then-levels-eq0-clause-follows
returns-then-levels-eq0-clause-follows g t c = c.read_node.ensures.follows

pub returns-in_ok-key_in-in-Leaf-clause-refusal : goal.returns-in_ok-key_in-in-Leaf-clause-refusal
returns-in_ok-key_in-in-Leaf-clause-refusal g t c = tt

pub returns-in_ok-key_in-in-Leaf-clause-same : goal.returns-in_ok-key_in-in-Leaf-clause-same
returns-in_ok-key_in-in-Leaf-clause-same g t c = c.read_node.ensures.same

pub returns-in_ok-key_in-in-Leaf-clause-whole : goal.returns-in_ok-key_in-in-Leaf-clause-whole
returns-in_ok-key_in-in-Leaf-clause-whole g t c = c.read_node.ensures.whole

pub returns-in_ok-key_in-in-Leaf-clause-rising : goal.returns-in_ok-key_in-in-Leaf-clause-rising
returns-in_ok-key_in-in-Leaf-clause-rising g t c = c.read_node.ensures.rising

pub returns-in_ok-key_in-in-Leaf-clause-follows : goal.returns-in_ok-key_in-in-Leaf-clause-follows
returns-in_ok-key_in-in-Leaf-clause-follows g t c = c.read_node.ensures.follows

pub returns-else-levels-eq0-clause-same : goal.returns-else-levels-eq0-clause-same
returns-else-levels-eq0-clause-same g t c = c.last_below.ensures.same ∙ c.read_node.ensures.same

pub returns-else-levels-eq0-clause-whole : goal.returns-else-levels-eq0-clause-whole
returns-else-levels-eq0-clause-whole g t c = λ w. c.last_below.ensures.whole (c.read_node.ensures.whole w)

pub returns-else-levels-eq0-clause-rising : goal.returns-else-levels-eq0-clause-rising
returns-else-levels-eq0-clause-rising g t c = le_trans c.read_node.ensures.rising c.last_below.ensures.rising

pub returns-else-levels-eq0-clause-follows : goal.returns-else-levels-eq0-clause-follows
returns-else-levels-eq0-clause-follows g t c = g.met.R.PageReader.follows_trans _ _ _ c.read_node.ensures.follows c.last_below.ensures.follows

pub kind-requires : goal.kind-requires
kind-requires g t c = tt

pub read_node-requires : goal.read_node-requires
read_node-requires g t c κs = λ h. h

pub overflow_sub-levels : goal.overflow_sub-levels
overflow_sub-levels g t c = omega (arith, c.if-levels-eq0.false)

pub child_at-child-requires-clause-inner : goal.child_at-child-requires-clause-inner
child_at-child-requires-clause-inner g t c = sym c.in-Inner.ensures
