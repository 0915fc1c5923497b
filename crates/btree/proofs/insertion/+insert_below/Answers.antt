use Rattle.btree_read.proofs.NodeLemmas.{never_ok, err_passed}
use Rattle.std.proofs.Common.{le_trans, ◌≡◌, ◌∙◌, sym, ap, subst, arith}
use Rattle.sqlrecord.specs.Cell.{IsLeafCell}
use Rattle.btree_read.specs.Nodes.{IsSmallBranch, branch_of}
use Rattle.btree_read.proofs.PlaceLemmas.{route_at}
use Rattle.btree.proofs.CellLemmas.{branch_is}
use Rattle.btree.proofs.StepLemmas.{grown_at_leaf, grown_kept, grown_up}
use Rattle.std.proofs.Common.{◌-◌}
use Rattle.btree_read.proofs.SearchLemmas.{no_level_left}
use Rattle.btree.proofs.RefusalLemmas.{memory_refused, kept_from, both_rise, change_refused, change_refused_on, read_as_change, no_node_for, no_tree_for}
use Rattle.btree.proofs.StepLemmas.{leaf_refused, child_refused, inner_refused}
use Rattle.btree.proofs.insertion.+insert_below.Goals as goal

pub returns-in_ok-cell-in-Leaf-clause-grows : goal.returns-in_ok-cell-in-Leaf-clause-grows
returns-in_ok-cell-in-Leaf-clause-grows g t c =
    grown_at_leaf _ _ _ _ _ _ c.in_ok-node.ensures.same c.in_ok-node.ensures.node _ _ (sym c.in-Leaf.ensures)
    (c.put_in_leaf.ensures.written _ (subst (λ x. IsLeafCell x c.args.key.now c.args.value.now) (sym c.as_slice.ensures) c.in_ok-cell-in-Leaf.ensures) c.requires)

pub returns-in-None-clause-grows : goal.returns-in-None-clause-grows
returns-in-None-clause-grows g t c =
    grown_kept _ _ _ _ _ _ c.in_ok-node.ensures.same c.in_ok-node.ensures.node _ _ _ (sym c.in-Inner.ensures)
    (route_at _ _ _ c.first_place-at.ensures.within c.first_place-at.ensures.before c.first_place-at.ensures.behind) c.child_at-child.ensures
    (rw c.in-None.is at c.in_ok-insert_below-in-Inner.ensures.grows)

pub returns-in_ok-cell-in-Some-clause-grows : goal.returns-in_ok-cell-in-Some-clause-grows
returns-in_ok-cell-in-Some-clause-grows g t c =
    let is : branch_of c.as_slice-in-Some-2.result.now ≡ c.in-Some.branch =
    ap branch_of c.as_slice-in-Some-2.ensures ∙ branch_is _ _ _ c.in_ok-cell-in-Some.ensures ∙ (λ i. record { key = c.as_slice-in-Some.ensures i; child = c.in-Some.branch.child }) in
    let small : IsSmallBranch c.in-Some.branch = rw c.in-Some.is at c.in_ok-insert_below-in-Inner.ensures.small in
    grown_up _ _ _ _ _ _ c.in_ok-node.ensures.same c.in_ok-node.ensures.node _ _ _ (sym c.in-Inner.ensures)
    (route_at _ _ _ c.first_place-at.ensures.within c.first_place-at.ensures.before c.first_place-at.ensures.behind) c.child_at-child.ensures
    _ c.in-Some.branch _ _ (rw c.in-Some.is at c.in_ok-insert_below-in-Inner.ensures.grows) is (c.put_in_inner.ensures.written (subst IsSmallBranch (sym is) small))

pub returns-in_ok-cell-in-Some-clause-follows : goal.returns-in_ok-cell-in-Some-clause-follows
returns-in_ok-cell-in-Some-clause-follows g t c =
    g.met.S.PageReader.follows_trans _ _ _ c.in_ok-node.ensures.follows (g.met.S.PageReader.follows_trans _ _ _ c.in_ok-insert_below-in-Inner.ensures.follows c.put_in_inner.ensures.follows)

pub returns-in_err-node-clause-refusal : goal.returns-in_err-node-clause-refusal
returns-in_err-node-clause-refusal g t c =
    err_passed c.from_residual.result c.in_err-node.field-0.0 _ c.from_residual.ensures.1
    (read_as_change (g.S.PageSpace.at_limit c.read_node.new.space) _ _ _ _ _ (no_node_for _ _ _ _ _) c.in_err-node.ensures.refusal)

pub returns-then-levels-eq0-clause-refusal : goal.returns-then-levels-eq0-clause-refusal
returns-then-levels-eq0-clause-refusal g t c = no_tree_for _ _ _ _ _ (no_level_left _ _ _ _ c.in_ok-node.ensures.node (sym c.in-Inner.ensures) c.if-levels-eq0.true)

pub returns-in_ok-cell-in-Leaf-clause-refusal : goal.returns-in_ok-cell-in-Leaf-clause-refusal
returns-in_ok-cell-in-Leaf-clause-refusal g t c =
    change_refused_on c.put_in_leaf.result (g.S.PageSpace.at_limit c.put_in_leaf.new.space) _ _ _ _ (g.S.PageReader.refused c.put_in_leaf.new.space) c.in_ok-node.ensures.rising
    (leaf_refused _ _ _ _ c.args.key.now c.args.value.now c.in_ok-node.ensures.same c.in_ok-node.ensures.node _ (g.S.PageReader.is_whole c.args.space.now) (g.S.PageReader.is_whole c.read_node.new.space) (sym c.in-Leaf.ensures) c.in_ok-node.ensures.whole
    _ (subst (λ x. IsLeafCell x c.args.key.now c.args.value.now) (sym c.as_slice.ensures) c.in_ok-cell-in-Leaf.ensures) c.requires) c.put_in_leaf.ensures.refusal

pub returns-in_err-insert_below-in-Inner-clause-refusal : goal.returns-in_err-insert_below-in-Inner-clause-refusal
returns-in_err-insert_below-in-Inner-clause-refusal g t c =
    err_passed c.from_residual-in_err-insert_below-in-Inner.result c.in_err-insert_below-in-Inner.field-0.0 _ c.from_residual-in_err-insert_below-in-Inner.ensures.1
    (change_refused (g.S.PageSpace.at_limit c.insert_below.new.space) _ _ (g.S.PageReader.refused c.args.space.now) (g.S.PageReader.refused c.read_node.new.space) (g.S.PageReader.refused c.insert_below.new.space) _ c.in_ok-node.ensures.rising
    (child_refused _ _ _ _ c.args.key.now c.args.value.now c.in_ok-node.ensures.same c.in_ok-node.ensures.node (g.S.PageReader.pages c.insert_below.new.space) _ _ (sym c.in-Inner.ensures)
    (route_at _ _ _ c.first_place-at.ensures.within c.first_place-at.ensures.before c.first_place-at.ensures.behind) c.child_at-child.ensures c.args.levels (c.args.levels - 1) (g.S.PageReader.is_whole c.args.space.now) (g.S.PageReader.is_whole c.read_node.new.space) (omega arith) c.in_ok-node.ensures.whole)
    c.in_err-insert_below-in-Inner.ensures.refusal)

pub returns-in_ok-cell-in-Some-clause-refusal : goal.returns-in_ok-cell-in-Some-clause-refusal
returns-in_ok-cell-in-Some-clause-refusal g t c =
    let is : branch_of c.as_slice-in-Some-2.result.now ≡ c.in-Some.branch =
    ap branch_of c.as_slice-in-Some-2.ensures ∙ branch_is _ _ _ c.in_ok-cell-in-Some.ensures ∙ (λ i. record { key = c.as_slice-in-Some.ensures i; child = c.in-Some.branch.child }) in
    let small : IsSmallBranch c.in-Some.branch = rw c.in-Some.is at c.in_ok-insert_below-in-Inner.ensures.small in
    change_refused_on c.put_in_inner.result (g.S.PageSpace.at_limit c.put_in_inner.new.space) _ _ _ _ (g.S.PageReader.refused c.put_in_inner.new.space) (both_rise _ _ _ c.in_ok-node.ensures.rising c.in_ok-insert_below-in-Inner.ensures.rising)
    (inner_refused _ _ _ _ _ c.args.value.now c.in_ok-node.ensures.same c.in_ok-node.ensures.node _ _ _ (sym c.in-Inner.ensures)
    (route_at _ _ _ c.first_place-at.ensures.within c.first_place-at.ensures.before c.first_place-at.ensures.behind) c.child_at-child.ensures c.args.levels (g.S.PageReader.is_whole c.args.space.now) (g.S.PageReader.is_whole c.insert_below.new.space) c.in-Some.branch _
    (λ w. c.in_ok-insert_below-in-Inner.ensures.whole (c.in_ok-node.ensures.whole w)) is (rw c.in-Some.is at c.in_ok-insert_below-in-Inner.ensures.grows) (subst IsSmallBranch (sym is) small))
    c.put_in_inner.ensures.refusal

pub returns-in_err-node-clause-grows : goal.returns-in_err-node-clause-grows
returns-in_err-node-clause-grows g t c = λ d s lo hi under. never_ok c.from_residual.result _ _ c.from_residual.ensures.1

pub returns-in_err-node-clause-small : goal.returns-in_err-node-clause-small
returns-in_err-node-clause-small g t c = never_ok c.from_residual.result _ _ c.from_residual.ensures.1

pub returns-in_err-node-clause-whole : goal.returns-in_err-node-clause-whole
returns-in_err-node-clause-whole g t c = never_ok c.from_residual.result _ _ c.from_residual.ensures.1

pub returns-in_err-node-clause-rising : goal.returns-in_err-node-clause-rising
returns-in_err-node-clause-rising g t c = c.read_node.ensures.rising

pub returns-in_err-node-clause-follows : goal.returns-in_err-node-clause-follows
returns-in_err-node-clause-follows g t c = c.read_node.ensures.follows

pub returns-in_err-cell-in-Leaf-clause-grows : goal.returns-in_err-cell-in-Leaf-clause-grows
returns-in_err-cell-in-Leaf-clause-grows g t c = λ d s lo hi under. never_ok c.from_residual-in_err-cell-in-Leaf.result _ _ c.from_residual-in_err-cell-in-Leaf.ensures.1

pub returns-in_err-cell-in-Leaf-clause-small : goal.returns-in_err-cell-in-Leaf-clause-small
returns-in_err-cell-in-Leaf-clause-small g t c = never_ok c.from_residual-in_err-cell-in-Leaf.result _ _ c.from_residual-in_err-cell-in-Leaf.ensures.1

pub returns-in_err-cell-in-Leaf-clause-whole : goal.returns-in_err-cell-in-Leaf-clause-whole
returns-in_err-cell-in-Leaf-clause-whole g t c = never_ok c.from_residual-in_err-cell-in-Leaf.result _ _ c.from_residual-in_err-cell-in-Leaf.ensures.1

pub returns-in_err-cell-in-Leaf-clause-refusal : goal.returns-in_err-cell-in-Leaf-clause-refusal
returns-in_err-cell-in-Leaf-clause-refusal g t c = memory_refused c.from_residual-in_err-cell-in-Leaf.result (g.S.PageSpace.at_limit c.read_node.new.space) _ _ _ c.from_residual-in_err-cell-in-Leaf.ensures.1

pub returns-in_err-cell-in-Leaf-clause-rising : goal.returns-in_err-cell-in-Leaf-clause-rising
returns-in_err-cell-in-Leaf-clause-rising g t c = c.read_node.ensures.rising

pub returns-in_err-cell-in-Leaf-clause-follows : goal.returns-in_err-cell-in-Leaf-clause-follows
returns-in_err-cell-in-Leaf-clause-follows g t c = c.read_node.ensures.follows

pub returns-in_ok-cell-in-Leaf-clause-small : goal.returns-in_ok-cell-in-Leaf-clause-small
returns-in_ok-cell-in-Leaf-clause-small g t c = c.put_in_leaf.ensures.small

pub returns-in_ok-cell-in-Leaf-clause-whole : goal.returns-in_ok-cell-in-Leaf-clause-whole
returns-in_ok-cell-in-Leaf-clause-whole g t c = kept_from c.put_in_leaf.result _ _ _ c.read_node.ensures.whole c.put_in_leaf.ensures.whole

pub returns-in_ok-cell-in-Leaf-clause-rising : goal.returns-in_ok-cell-in-Leaf-clause-rising
returns-in_ok-cell-in-Leaf-clause-rising g t c = le_trans c.read_node.ensures.rising c.put_in_leaf.ensures.rising

pub returns-in_ok-cell-in-Leaf-clause-follows : goal.returns-in_ok-cell-in-Leaf-clause-follows
returns-in_ok-cell-in-Leaf-clause-follows g t c = g.met.S.PageReader.follows_trans _ _ _ c.read_node.ensures.follows c.put_in_leaf.ensures.follows

pub returns-then-levels-eq0-clause-grows : goal.returns-then-levels-eq0-clause-grows
returns-then-levels-eq0-clause-grows g t c = λ d s lo hi under. tt

pub returns-then-levels-eq0-clause-small : goal.returns-then-levels-eq0-clause-small
returns-then-levels-eq0-clause-small g t c = tt

pub returns-then-levels-eq0-clause-whole : goal.returns-then-levels-eq0-clause-whole
returns-then-levels-eq0-clause-whole g t c = tt

pub returns-then-levels-eq0-clause-rising : goal.returns-then-levels-eq0-clause-rising
returns-then-levels-eq0-clause-rising g t c = c.read_node.ensures.rising

pub returns-then-levels-eq0-clause-follows : goal.returns-then-levels-eq0-clause-follows
returns-then-levels-eq0-clause-follows g t c = c.read_node.ensures.follows

pub returns-in_err-insert_below-in-Inner-clause-grows : goal.returns-in_err-insert_below-in-Inner-clause-grows
returns-in_err-insert_below-in-Inner-clause-grows g t c = λ d s lo hi under. never_ok c.from_residual-in_err-insert_below-in-Inner.result _ _ c.from_residual-in_err-insert_below-in-Inner.ensures.1

pub returns-in_err-insert_below-in-Inner-clause-small : goal.returns-in_err-insert_below-in-Inner-clause-small
returns-in_err-insert_below-in-Inner-clause-small g t c = never_ok c.from_residual-in_err-insert_below-in-Inner.result _ _ c.from_residual-in_err-insert_below-in-Inner.ensures.1

pub returns-in_err-insert_below-in-Inner-clause-whole : goal.returns-in_err-insert_below-in-Inner-clause-whole
returns-in_err-insert_below-in-Inner-clause-whole g t c = never_ok c.from_residual-in_err-insert_below-in-Inner.result _ _ c.from_residual-in_err-insert_below-in-Inner.ensures.1

pub returns-in_err-insert_below-in-Inner-clause-rising : goal.returns-in_err-insert_below-in-Inner-clause-rising
returns-in_err-insert_below-in-Inner-clause-rising g t c = le_trans c.read_node.ensures.rising c.insert_below.ensures.rising

pub returns-in_err-insert_below-in-Inner-clause-follows : goal.returns-in_err-insert_below-in-Inner-clause-follows
returns-in_err-insert_below-in-Inner-clause-follows g t c = g.met.S.PageReader.follows_trans _ _ _ c.read_node.ensures.follows c.insert_below.ensures.follows

pub returns-in-None-clause-small : goal.returns-in-None-clause-small
returns-in-None-clause-small g t c = tt

pub returns-in-None-clause-refusal : goal.returns-in-None-clause-refusal
returns-in-None-clause-refusal g t c = tt

pub returns-in-None-clause-whole : goal.returns-in-None-clause-whole
returns-in-None-clause-whole g t c = λ w. c.in_ok-insert_below-in-Inner.ensures.whole (c.read_node.ensures.whole w)

pub returns-in-None-clause-rising : goal.returns-in-None-clause-rising
returns-in-None-clause-rising g t c = le_trans c.read_node.ensures.rising c.insert_below.ensures.rising

pub returns-in-None-clause-follows : goal.returns-in-None-clause-follows
returns-in-None-clause-follows g t c = g.met.S.PageReader.follows_trans _ _ _ c.read_node.ensures.follows c.insert_below.ensures.follows

pub returns-in_err-cell-in-Some-clause-grows : goal.returns-in_err-cell-in-Some-clause-grows
returns-in_err-cell-in-Some-clause-grows g t c = λ d s lo hi under. never_ok c.from_residual-in_err-cell-in-Some.result _ _ c.from_residual-in_err-cell-in-Some.ensures.1

pub returns-in_err-cell-in-Some-clause-small : goal.returns-in_err-cell-in-Some-clause-small
returns-in_err-cell-in-Some-clause-small g t c = never_ok c.from_residual-in_err-cell-in-Some.result _ _ c.from_residual-in_err-cell-in-Some.ensures.1

pub returns-in_err-cell-in-Some-clause-whole : goal.returns-in_err-cell-in-Some-clause-whole
returns-in_err-cell-in-Some-clause-whole g t c = never_ok c.from_residual-in_err-cell-in-Some.result _ _ c.from_residual-in_err-cell-in-Some.ensures.1

pub returns-in_err-cell-in-Some-clause-refusal : goal.returns-in_err-cell-in-Some-clause-refusal
returns-in_err-cell-in-Some-clause-refusal g t c = memory_refused c.from_residual-in_err-cell-in-Some.result (g.S.PageSpace.at_limit c.insert_below.new.space) _ _ _ c.from_residual-in_err-cell-in-Some.ensures.1

pub returns-in_err-cell-in-Some-clause-rising : goal.returns-in_err-cell-in-Some-clause-rising
returns-in_err-cell-in-Some-clause-rising g t c = le_trans c.read_node.ensures.rising c.insert_below.ensures.rising

pub returns-in_err-cell-in-Some-clause-follows : goal.returns-in_err-cell-in-Some-clause-follows
returns-in_err-cell-in-Some-clause-follows g t c = g.met.S.PageReader.follows_trans _ _ _ c.read_node.ensures.follows c.insert_below.ensures.follows

pub returns-in_ok-cell-in-Some-clause-small : goal.returns-in_ok-cell-in-Some-clause-small
returns-in_ok-cell-in-Some-clause-small g t c = c.put_in_inner.ensures.small

pub returns-in_ok-cell-in-Some-clause-whole : goal.returns-in_ok-cell-in-Some-clause-whole
returns-in_ok-cell-in-Some-clause-whole g t c = kept_from c.put_in_inner.result _ _ _ (λ w. c.in_ok-insert_below-in-Inner.ensures.whole (c.read_node.ensures.whole w)) c.put_in_inner.ensures.whole

pub returns-in_ok-cell-in-Some-clause-rising : goal.returns-in_ok-cell-in-Some-clause-rising
returns-in_ok-cell-in-Some-clause-rising g t c = le_trans (le_trans c.read_node.ensures.rising c.insert_below.ensures.rising) c.put_in_inner.ensures.rising

pub child_at-child-requires-clause-inner : goal.child_at-child-requires-clause-inner
child_at-child-requires-clause-inner g t c = sym c.in-Inner.ensures

pub child_at-child-requires-clause-place : goal.child_at-child-requires-clause-place
child_at-child-requires-clause-place g t c = c.first_place-at.ensures.within

pub put_in_inner-requires-clause-inner : goal.put_in_inner-requires-clause-inner
put_in_inner-requires-clause-inner g t c = sym c.in-Inner.ensures

pub put_in_inner-requires-clause-place : goal.put_in_inner-requires-clause-place
put_in_inner-requires-clause-place g t c = c.first_place-at.ensures.within

pub put_in_inner-requires-clause-fits : goal.put_in_inner-requires-clause-fits
put_in_inner-requires-clause-fits g t c = c.in_ok-node.ensures.fits

pub put_in_leaf-requires-clause-leaf : goal.put_in_leaf-requires-clause-leaf
put_in_leaf-requires-clause-leaf g t c = sym c.in-Leaf.ensures

pub put_in_leaf-requires-clause-fits : goal.put_in_leaf-requires-clause-fits
put_in_leaf-requires-clause-fits g t c = c.in_ok-node.ensures.fits

pub overflow_sub-levels : goal.overflow_sub-levels
overflow_sub-levels g t c = omega (arith, c.if-levels-eq0.false)

pub kind-requires : goal.kind-requires
kind-requires g t c = tt

pub first_place-at-requires : goal.first_place-at-requires
first_place-at-requires g t c = tt

pub read_node-requires : goal.read_node-requires
read_node-requires g t c κs = λ h. h
