use Rattle.std.proofs.Common.{le_trans, ◌∙◌, sym, arith, Option, Some, None, Ok, inl, inr}
use Rattle.btree_read.specs.declared.entry.Entry.{Entry}
use Rattle.btree_read.specs.declared.entry.Start.TheVariants.{Behind}
use Rattle.btree_read.specs.Sorted.{first_from}
use Rattle.btree_read.proofs.NodeLemmas.{harm_weaker, read_refused, read_refused_on, never_ok, err_passed, memory_passed}
use Rattle.btree_read.proofs.PlaceLemmas.{route_at}
use Rattle.btree_read.proofs.SearchLemmas.{answers_leaf, found_here, found_behind, no_node_no_tree, no_level_left, no_child_no_tree}
use Rattle.btree_read.proofs.NearLemmas.{stays_leaf, stays_child, stays_twice}
use Rattle.btree_read.proofs.near.+find_near.Goals as goal

pub returns-in_err-node-clause-refusal : goal.returns-in_err-node-clause-refusal
returns-in_err-node-clause-refusal g t c =
    err_passed c.from_residual.result c.in_err-node.field-0.0 _ c.from_residual.ensures.1
    (harm_weaker _ _ _ _ _ (no_node_no_tree _ _ _) c.in_err-node.ensures.refusal)

pub returns-then-levels-eq0-clause-refusal : goal.returns-then-levels-eq0-clause-refusal
returns-then-levels-eq0-clause-refusal g t c = no_level_left _ _ _ _ c.in_ok-node.ensures.node (sym c.in-Inner.ensures) c.if-levels-eq0.true

pub returns-in_ok-entry_of_leaf-in-Leaf-clause-found : goal.returns-in_ok-entry_of_leaf-in-Leaf-clause-found
returns-in_ok-entry_of_leaf-in-Leaf-clause-found g t c =
    answers_leaf {A = Option Entry} _ _ _ (first_from Behind c.args.key.now) (Ok c.in_ok-entry_of_leaf-in-Leaf.field-0) c.in_ok-node.ensures.node (sym c.in-Leaf.ensures) c.in_ok-entry_of_leaf-in-Leaf.ensures.found

pub returns-in_err-entry-in-Inner-clause-refusal : goal.returns-in_err-entry-in-Inner-clause-refusal
returns-in_err-entry-in-Inner-clause-refusal g t c =
    err_passed c.from_residual-in_err-entry-in-Inner.result c.in_err-entry-in-Inner.field-0.0 _ c.from_residual-in_err-entry-in-Inner.ensures.1
    (read_refused _ _ _ _ _ _ c.in_ok-node.ensures.rising
    (no_child_no_tree _ _ _ _ _ _ _ _ c.in_ok-node.ensures.same c.in_ok-node.ensures.node (sym c.in-Inner.ensures) c.child_at-child.ensures (omega arith))
    c.in_err-entry-in-Inner.ensures.refusal)

pub returns-in-Some-clause-found : goal.returns-in-Some-clause-found
returns-in-Some-clause-found g t c =
    found_here _ _ _ _ _ _ Behind _ (Some c.in-Some.entry) c.in_ok-node.ensures.same c.in_ok-node.ensures.node (sym c.in-Inner.ensures)
    (route_at _ _ _ c.first_place-at.ensures.within c.first_place-at.ensures.before c.first_place-at.ensures.behind) c.child_at-child.ensures
    (inl (λ e. cc)) (rw c.in-Some.is at c.in_ok-entry-in-Inner.ensures.found)

pub returns-in-Some-sibling-clause-found : goal.returns-in-Some-sibling-clause-found
returns-in-Some-sibling-clause-found g t c =
    found_behind _ _ _ _ _ _ _ _ Behind _ _ c.in_ok-node.ensures.same (c.in_ok-entry-in-Inner.ensures.same ∙ c.in_ok-node.ensures.same) c.in_ok-node.ensures.node (sym c.in-Inner.ensures)
    (route_at _ _ _ c.first_place-at.ensures.within c.first_place-at.ensures.before c.first_place-at.ensures.behind) c.child_at-child.ensures
    c.in-Some-sibling.ensures.0 c.in-Some-sibling.ensures.1 (rw c.in-None.is at c.in_ok-entry-in-Inner.ensures.found) c.find_near-in-Some-sibling.ensures.found

pub returns-in-Some-sibling-clause-refusal : goal.returns-in-Some-sibling-clause-refusal
returns-in-Some-sibling-clause-refusal g t c =
    read_refused_on _ _ _ _ _ _ (omega (arith, c.in_ok-node.ensures.rising, c.in_ok-entry-in-Inner.ensures.rising))
    (no_child_no_tree _ _ _ _ _ _ _ _ (c.in_ok-entry-in-Inner.ensures.same ∙ c.in_ok-node.ensures.same) c.in_ok-node.ensures.node (sym c.in-Inner.ensures) c.in-Some-sibling.ensures.1 (omega arith))
    c.find_near-in-Some-sibling.ensures.refusal

pub returns-in-None-sibling-clause-found : goal.returns-in-None-sibling-clause-found
returns-in-None-sibling-clause-found g t c =
    found_here _ _ _ _ _ _ Behind _ None c.in_ok-node.ensures.same c.in_ok-node.ensures.node (sym c.in-Inner.ensures)
    (route_at _ _ _ c.first_place-at.ensures.within c.first_place-at.ensures.before c.first_place-at.ensures.behind) c.child_at-child.ensures
    (inr c.in-None-sibling.ensures) (rw c.in-None.is at c.in_ok-entry-in-Inner.ensures.found)

pub returns-in_err-node-clause-found : goal.returns-in_err-node-clause-found
returns-in_err-node-clause-found g t c = λ d s lo hi under. never_ok c.from_residual.result _ _ c.from_residual.ensures.1

pub returns-in_err-node-clause-same : goal.returns-in_err-node-clause-same
returns-in_err-node-clause-same g t c = c.read_node.ensures.same

pub returns-in_err-node-clause-whole : goal.returns-in_err-node-clause-whole
returns-in_err-node-clause-whole g t c = c.read_node.ensures.whole

pub returns-in_err-node-clause-rising : goal.returns-in_err-node-clause-rising
returns-in_err-node-clause-rising g t c = c.read_node.ensures.rising

pub returns-in_err-node-clause-follows : goal.returns-in_err-node-clause-follows
returns-in_err-node-clause-follows g t c = c.read_node.ensures.follows

pub returns-in_err-entry_of_leaf-in-Leaf-clause-found : goal.returns-in_err-entry_of_leaf-in-Leaf-clause-found
returns-in_err-entry_of_leaf-in-Leaf-clause-found g t c = λ d s lo hi under. never_ok c.from_residual-in_err-entry_of_leaf-in-Leaf.result _ _ c.from_residual-in_err-entry_of_leaf-in-Leaf.ensures.1

pub returns-in_err-entry_of_leaf-in-Leaf-clause-refusal : goal.returns-in_err-entry_of_leaf-in-Leaf-clause-refusal
returns-in_err-entry_of_leaf-in-Leaf-clause-refusal g t c = memory_passed c.from_residual-in_err-entry_of_leaf-in-Leaf.result _ _ _ c.from_residual-in_err-entry_of_leaf-in-Leaf.ensures.1

pub returns-in_err-entry_of_leaf-in-Leaf-clause-same : goal.returns-in_err-entry_of_leaf-in-Leaf-clause-same
returns-in_err-entry_of_leaf-in-Leaf-clause-same g t c = c.read_node.ensures.same

pub returns-in_err-entry_of_leaf-in-Leaf-clause-whole : goal.returns-in_err-entry_of_leaf-in-Leaf-clause-whole
returns-in_err-entry_of_leaf-in-Leaf-clause-whole g t c = c.read_node.ensures.whole

pub returns-in_err-entry_of_leaf-in-Leaf-clause-rising : goal.returns-in_err-entry_of_leaf-in-Leaf-clause-rising
returns-in_err-entry_of_leaf-in-Leaf-clause-rising g t c = c.read_node.ensures.rising

pub returns-in_err-entry_of_leaf-in-Leaf-clause-follows : goal.returns-in_err-entry_of_leaf-in-Leaf-clause-follows
returns-in_err-entry_of_leaf-in-Leaf-clause-follows g t c = c.read_node.ensures.follows

pub returns-then-levels-eq0-clause-found : goal.returns-then-levels-eq0-clause-found
returns-then-levels-eq0-clause-found g t c = λ d s lo hi under. tt

pub returns-then-levels-eq0-clause-same : goal.returns-then-levels-eq0-clause-same
returns-then-levels-eq0-clause-same g t c = c.read_node.ensures.same

pub returns-then-levels-eq0-clause-whole : goal.returns-then-levels-eq0-clause-whole
returns-then-levels-eq0-clause-whole g t c = c.read_node.ensures.whole

pub returns-then-levels-eq0-clause-rising : goal.returns-then-levels-eq0-clause-rising
returns-then-levels-eq0-clause-rising g t c = c.read_node.ensures.rising

pub returns-then-levels-eq0-clause-follows : goal.returns-then-levels-eq0-clause-follows
returns-then-levels-eq0-clause-follows g t c = c.read_node.ensures.follows

pub child_at-child-requires-clause-inner : goal.child_at-child-requires-clause-inner
child_at-child-requires-clause-inner g t c = sym c.in-Inner.ensures

pub child_at-child-requires-clause-place : goal.child_at-child-requires-clause-place
child_at-child-requires-clause-place g t c = c.first_place-at.ensures.within

pub sibling_of-sibling-requires-clause-inner : goal.sibling_of-sibling-requires-clause-inner
sibling_of-sibling-requires-clause-inner g t c = sym c.in-Inner.ensures

pub sibling_of-sibling-requires-clause-place : goal.sibling_of-sibling-requires-clause-place
sibling_of-sibling-requires-clause-place g t c = c.first_place-at.ensures.within

pub returns-in_err-entry-in-Inner-clause-found : goal.returns-in_err-entry-in-Inner-clause-found
returns-in_err-entry-in-Inner-clause-found g t c = λ d s lo hi under. never_ok c.from_residual-in_err-entry-in-Inner.result _ _ c.from_residual-in_err-entry-in-Inner.ensures.1

pub returns-in_err-entry-in-Inner-clause-same : goal.returns-in_err-entry-in-Inner-clause-same
returns-in_err-entry-in-Inner-clause-same g t c = c.find_near.ensures.same ∙ c.read_node.ensures.same

pub returns-in_err-entry-in-Inner-clause-whole : goal.returns-in_err-entry-in-Inner-clause-whole
returns-in_err-entry-in-Inner-clause-whole g t c = λ w. c.find_near.ensures.whole (c.read_node.ensures.whole w)

pub returns-in_err-entry-in-Inner-clause-rising : goal.returns-in_err-entry-in-Inner-clause-rising
returns-in_err-entry-in-Inner-clause-rising g t c = le_trans c.read_node.ensures.rising c.find_near.ensures.rising

pub returns-in_err-entry-in-Inner-clause-follows : goal.returns-in_err-entry-in-Inner-clause-follows
returns-in_err-entry-in-Inner-clause-follows g t c = g.met.R.PageReader.follows_trans _ _ _ c.read_node.ensures.follows c.find_near.ensures.follows

pub returns-in_ok-entry_of_leaf-in-Leaf-clause-refusal : goal.returns-in_ok-entry_of_leaf-in-Leaf-clause-refusal
returns-in_ok-entry_of_leaf-in-Leaf-clause-refusal g t c = tt

pub returns-in_ok-entry_of_leaf-in-Leaf-clause-same : goal.returns-in_ok-entry_of_leaf-in-Leaf-clause-same
returns-in_ok-entry_of_leaf-in-Leaf-clause-same g t c = c.read_node.ensures.same

pub returns-in_ok-entry_of_leaf-in-Leaf-clause-whole : goal.returns-in_ok-entry_of_leaf-in-Leaf-clause-whole
returns-in_ok-entry_of_leaf-in-Leaf-clause-whole g t c = c.read_node.ensures.whole

pub returns-in_ok-entry_of_leaf-in-Leaf-clause-rising : goal.returns-in_ok-entry_of_leaf-in-Leaf-clause-rising
returns-in_ok-entry_of_leaf-in-Leaf-clause-rising g t c = c.read_node.ensures.rising

pub returns-in_ok-entry_of_leaf-in-Leaf-clause-follows : goal.returns-in_ok-entry_of_leaf-in-Leaf-clause-follows
returns-in_ok-entry_of_leaf-in-Leaf-clause-follows g t c = c.read_node.ensures.follows

pub returns-in-Some-clause-refusal : goal.returns-in-Some-clause-refusal
returns-in-Some-clause-refusal g t c = tt

pub returns-in-Some-clause-same : goal.returns-in-Some-clause-same
returns-in-Some-clause-same g t c = c.find_near.ensures.same ∙ c.read_node.ensures.same

pub returns-in-Some-clause-whole : goal.returns-in-Some-clause-whole
returns-in-Some-clause-whole g t c = λ w. c.find_near.ensures.whole (c.read_node.ensures.whole w)

pub returns-in-Some-clause-rising : goal.returns-in-Some-clause-rising
returns-in-Some-clause-rising g t c = le_trans c.read_node.ensures.rising c.find_near.ensures.rising

pub returns-in-Some-clause-follows : goal.returns-in-Some-clause-follows
returns-in-Some-clause-follows g t c = g.met.R.PageReader.follows_trans _ _ _ c.read_node.ensures.follows c.find_near.ensures.follows

pub returns-in-Some-sibling-clause-same : goal.returns-in-Some-sibling-clause-same
returns-in-Some-sibling-clause-same g t c = c.find_near-in-Some-sibling.ensures.same ∙ (c.find_near.ensures.same ∙ c.read_node.ensures.same)

pub returns-in-Some-sibling-clause-whole : goal.returns-in-Some-sibling-clause-whole
returns-in-Some-sibling-clause-whole g t c = λ w. c.find_near-in-Some-sibling.ensures.whole (c.find_near.ensures.whole (c.read_node.ensures.whole w))

pub returns-in-Some-sibling-clause-rising : goal.returns-in-Some-sibling-clause-rising
returns-in-Some-sibling-clause-rising g t c = le_trans (le_trans c.read_node.ensures.rising c.find_near.ensures.rising) c.find_near-in-Some-sibling.ensures.rising

pub returns-in-Some-sibling-clause-follows : goal.returns-in-Some-sibling-clause-follows
returns-in-Some-sibling-clause-follows g t c = g.met.R.PageReader.follows_trans _ _ _ (g.met.R.PageReader.follows_trans _ _ _ c.read_node.ensures.follows c.find_near.ensures.follows) c.find_near-in-Some-sibling.ensures.follows

pub returns-in-None-sibling-clause-refusal : goal.returns-in-None-sibling-clause-refusal
returns-in-None-sibling-clause-refusal g t c = tt

pub returns-in-None-sibling-clause-same : goal.returns-in-None-sibling-clause-same
returns-in-None-sibling-clause-same g t c = c.find_near.ensures.same ∙ c.read_node.ensures.same

pub returns-in-None-sibling-clause-whole : goal.returns-in-None-sibling-clause-whole
returns-in-None-sibling-clause-whole g t c = λ w. c.find_near.ensures.whole (c.read_node.ensures.whole w)

pub returns-in-None-sibling-clause-rising : goal.returns-in-None-sibling-clause-rising
returns-in-None-sibling-clause-rising g t c = le_trans c.read_node.ensures.rising c.find_near.ensures.rising

pub returns-in-None-sibling-clause-follows : goal.returns-in-None-sibling-clause-follows
returns-in-None-sibling-clause-follows g t c = g.met.R.PageReader.follows_trans _ _ _ c.read_node.ensures.follows c.find_near.ensures.follows

pub kind-requires : goal.kind-requires
kind-requires g t c = tt

pub entry_of_leaf-requires : goal.entry_of_leaf-requires
entry_of_leaf-requires g t c = tt

pub first_place-at-requires : goal.first_place-at-requires
first_place-at-requires g t c = tt

pub read_node-requires : goal.read_node-requires
read_node-requires g t c κs = λ h. h

pub overflow_sub-levels : goal.overflow_sub-levels
overflow_sub-levels g t c = omega (arith, c.if-levels-eq0.false)

pub overflow_sub-levels-in-Some-sibling : goal.overflow_sub-levels-in-Some-sibling
overflow_sub-levels-in-Some-sibling g t c = omega (arith, c.if-levels-eq0.false)

pub returns-in_err-node-clause-kept : goal.returns-in_err-node-clause-kept
returns-in_err-node-clause-kept g t c = λ d s lo hi under entries w part. part

pub returns-then-levels-eq0-clause-kept : goal.returns-then-levels-eq0-clause-kept
returns-then-levels-eq0-clause-kept g t c = λ d s lo hi under entries w part. part

pub returns-in_ok-entry_of_leaf-in-Leaf-clause-kept : goal.returns-in_ok-entry_of_leaf-in-Leaf-clause-kept
returns-in_ok-entry_of_leaf-in-Leaf-clause-kept g t c =
    stays_leaf _ _ _ _ _ c.in_ok-node.ensures.node (sym c.in-Leaf.ensures) c.entry_of_leaf.ensures.kept

pub returns-in_err-entry_of_leaf-in-Leaf-clause-kept : goal.returns-in_err-entry_of_leaf-in-Leaf-clause-kept
returns-in_err-entry_of_leaf-in-Leaf-clause-kept g t c =
    stays_leaf _ _ _ _ _ c.in_ok-node.ensures.node (sym c.in-Leaf.ensures) c.entry_of_leaf.ensures.kept

pub returns-in_err-entry-in-Inner-clause-kept : goal.returns-in_err-entry-in-Inner-clause-kept
returns-in_err-entry-in-Inner-clause-kept g t c =
    stays_child _ _ _ _ _ _ _ _ c.in_ok-node.ensures.same c.in_ok-node.ensures.node (sym c.in-Inner.ensures) c.child_at-child.ensures c.find_near.ensures.kept

pub returns-in-Some-clause-kept : goal.returns-in-Some-clause-kept
returns-in-Some-clause-kept g t c =
    stays_child _ _ _ _ _ _ _ _ c.in_ok-node.ensures.same c.in_ok-node.ensures.node (sym c.in-Inner.ensures) c.child_at-child.ensures c.find_near.ensures.kept

pub returns-in-None-sibling-clause-kept : goal.returns-in-None-sibling-clause-kept
returns-in-None-sibling-clause-kept g t c =
    stays_child _ _ _ _ _ _ _ _ c.in_ok-node.ensures.same c.in_ok-node.ensures.node (sym c.in-Inner.ensures) c.child_at-child.ensures c.find_near.ensures.kept

pub returns-in-Some-sibling-clause-kept : goal.returns-in-Some-sibling-clause-kept
returns-in-Some-sibling-clause-kept g t c =
    stays_twice _ _ _ _ _
    (stays_child _ _ _ _ _ _ _ _ c.in_ok-node.ensures.same c.in_ok-node.ensures.node (sym c.in-Inner.ensures) c.child_at-child.ensures c.find_near.ensures.kept)
    (stays_child _ _ _ _ _ _ _ _ (c.find_near.ensures.same ∙ c.in_ok-node.ensures.same) c.in_ok-node.ensures.node (sym c.in-Inner.ensures) c.in-Some-sibling.ensures.1 c.find_near-in-Some-sibling.ensures.kept)
