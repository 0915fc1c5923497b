use Rattle.btree_read.proofs.NodeLemmas.{never_ok, err_passed}
use Rattle.std.proofs.Common.{le_trans, ◌≡◌, ◌∙◌, sym, ap, subst, arith}
use Rattle.sqlrecord.specs.declared.kind.PageKind.TheVariants.{Inner}
use Rattle.sqlrecord.specs.Page.{IsCell}
use Rattle.btree_read.specs.Nodes.{branch_of, IsSmallBranch}
use Rattle.btree.proofs.CellLemmas.{branch_is}
use Rattle.btree.proofs.RefusalLemmas.{memory_refused, kept_from, change_refused_on, read_as_change}
use Rattle.btree_remove.proofs.PageSteps.{inner_read, inner_read_behind, inner_not_read, inner_is_leaf, inner_not_joined, divider_is_long, before_as, behind_as}
use Rattle.btree_remove.proofs.inner.join_inners.Goals as goal

pub returns-then-divider-gt-MAXIMUM_KEY-clause-refusal : goal.returns-then-divider-gt-MAXIMUM_KEY-clause-refusal
returns-then-divider-gt-MAXIMUM_KEY-clause-refusal g c = divider_is_long _ c.args.pair.now c.args.divider.now c.args.only (g.S.PageReader.is_whole c.args.space.now) c.if-divider-gt-MAXIMUM_KEY.true

pub returns-in_err-node-clause-refusal : goal.returns-in_err-node-clause-refusal
returns-in_err-node-clause-refusal g c =
    err_passed c.from_residual.result c.in_err-node.field-0.0 _ c.from_residual.ensures.1
    (read_as_change (g.S.PageSpace.at_limit c.read_node.new.space) _ _ (g.S.PageReader.refused c.args.space.now) (g.S.PageReader.refused c.read_node.new.space) _
    (inner_not_read _ c.args.pair.now c.args.divider.now c.args.only (g.S.PageReader.is_whole c.args.space.now)) c.in_err-node.ensures.refusal)

pub returns-in-Leaf-clause-refusal : goal.returns-in-Leaf-clause-refusal
returns-in-Leaf-clause-refusal g c =
    inner_is_leaf _ c.args.pair.now c.args.divider.now c.args.only _ (g.S.PageReader.is_whole c.args.space.now) c.in_ok-node.ensures.node (sym c.in-Leaf.ensures)

pub add_child-requires-clause-cell : goal.add_child-requires-clause-cell
add_child-requires-clause-cell g c = subst (IsCell Inner) (sym c.as_slice.ensures) c.in_ok-cell-in-Inner.ensures.formed

pub add_child-requires-clause-small : goal.add_child-requires-clause-small
add_child-requires-clause-small g c =
    let is : branch_of c.as_slice.result.now ≡ record { key = c.args.divider.now; child = c.child_between-child.result } = ap branch_of c.as_slice.ensures ∙ branch_is _ _ _ c.in_ok-cell-in-Inner.ensures in
    let short : IsSmallBranch (record { key = c.args.divider.now; child = c.child_between-child.result }) = omega (arith, c.if-divider-gt-MAXIMUM_KEY.false) in
    subst IsSmallBranch (sym is) short

pub returns-in_ok-cell-in-Inner-clause-before : goal.returns-in_ok-cell-in-Inner-clause-before
returns-in_ok-cell-in-Inner-clause-before g c =
    let is : branch_of c.as_slice.result.now ≡ record { key = c.args.divider.now; child = c.child_between-child.result } = ap branch_of c.as_slice.ensures ∙ branch_is _ _ _ c.in_ok-cell-in-Inner.ensures in
    inner_read _ _ _ c.args.pair.now c.args.divider.now c.args.only _ c.add_child.result c.in_ok-node.ensures.same c.in_ok-node.ensures.node
    (before_as _ _ c.args.pair.now c.args.only _ _ _ _ c.add_child.result (λ k. is ∙ (λ i. record { key = c.args.divider.now; child = c.child_between-child.ensures.before k i })) c.add_child.ensures.before)

pub returns-in_ok-cell-in-Inner-clause-behind : goal.returns-in_ok-cell-in-Inner-clause-behind
returns-in_ok-cell-in-Inner-clause-behind g c =
    let is : branch_of c.as_slice.result.now ≡ record { key = c.args.divider.now; child = c.child_between-child.result } = ap branch_of c.as_slice.ensures ∙ branch_is _ _ _ c.in_ok-cell-in-Inner.ensures in
    inner_read_behind _ _ _ c.args.pair.now c.args.divider.now c.args.only _ c.add_child.result c.in_ok-node.ensures.same c.in_ok-node.ensures.node
    (behind_as _ _ c.args.pair.now _ _ _ _ _ c.add_child.result (λ k. is ∙ (λ i. record { key = c.args.divider.now; child = c.child_between-child.ensures.behind k i })) c.add_child.ensures.behind)

pub returns-in_ok-cell-in-Inner-clause-refusal : goal.returns-in_ok-cell-in-Inner-clause-refusal
returns-in_ok-cell-in-Inner-clause-refusal g c =
    let is : branch_of c.as_slice.result.now ≡ record { key = c.args.divider.now; child = c.child_between-child.result } = ap branch_of c.as_slice.ensures ∙ branch_is _ _ _ c.in_ok-cell-in-Inner.ensures in
    change_refused_on c.add_child.result (g.S.PageSpace.at_limit c.add_child.new.space) _ _ (g.S.PageReader.refused c.args.space.now) (g.S.PageReader.refused c.read_node.new.space) (g.S.PageReader.refused c.add_child.new.space)
    c.in_ok-node.ensures.rising
    (inner_not_joined _ _ c.args.pair.now c.args.divider.now c.args.only _ (branch_of c.as_slice.result.now) (g.S.PageReader.is_whole c.args.space.now) (g.S.PageReader.is_whole c.read_node.new.space)
    c.in_ok-node.ensures.same c.in_ok-node.ensures.node c.in_ok-node.ensures.whole (λ k. is ∙ (λ i. record { key = c.args.divider.now; child = c.child_between-child.ensures.before k i }))
    (λ k. is ∙ (λ i. record { key = c.args.divider.now; child = c.child_between-child.ensures.behind k i }))) c.add_child.ensures.refusal

pub returns-then-divider-gt-MAXIMUM_KEY-clause-before : goal.returns-then-divider-gt-MAXIMUM_KEY-clause-before
returns-then-divider-gt-MAXIMUM_KEY-clause-before g c = λ first bs is node used apart. tt

pub returns-then-divider-gt-MAXIMUM_KEY-clause-behind : goal.returns-then-divider-gt-MAXIMUM_KEY-clause-behind
returns-then-divider-gt-MAXIMUM_KEY-clause-behind g c = λ first bs is node used apart. tt

pub returns-then-divider-gt-MAXIMUM_KEY-clause-small : goal.returns-then-divider-gt-MAXIMUM_KEY-clause-small
returns-then-divider-gt-MAXIMUM_KEY-clause-small g c = tt

pub returns-then-divider-gt-MAXIMUM_KEY-clause-whole : goal.returns-then-divider-gt-MAXIMUM_KEY-clause-whole
returns-then-divider-gt-MAXIMUM_KEY-clause-whole g c = tt

pub returns-then-divider-gt-MAXIMUM_KEY-clause-follows : goal.returns-then-divider-gt-MAXIMUM_KEY-clause-follows
returns-then-divider-gt-MAXIMUM_KEY-clause-follows g c = g.met.S.PageReader.follows_refl _

pub returns-in_err-node-clause-before : goal.returns-in_err-node-clause-before
returns-in_err-node-clause-before g c = λ first bs is node used apart. never_ok c.from_residual.result _ _ c.from_residual.ensures.1

pub returns-in_err-node-clause-behind : goal.returns-in_err-node-clause-behind
returns-in_err-node-clause-behind g c = λ first bs is node used apart. never_ok c.from_residual.result _ _ c.from_residual.ensures.1

pub returns-in_err-node-clause-small : goal.returns-in_err-node-clause-small
returns-in_err-node-clause-small g c = never_ok c.from_residual.result _ _ c.from_residual.ensures.1

pub returns-in_err-node-clause-whole : goal.returns-in_err-node-clause-whole
returns-in_err-node-clause-whole g c = never_ok c.from_residual.result _ _ c.from_residual.ensures.1

pub returns-in_err-node-clause-rising : goal.returns-in_err-node-clause-rising
returns-in_err-node-clause-rising g c = c.read_node.ensures.rising

pub returns-in_err-node-clause-follows : goal.returns-in_err-node-clause-follows
returns-in_err-node-clause-follows g c = c.read_node.ensures.follows

pub returns-in_err-cell-in-Inner-clause-before : goal.returns-in_err-cell-in-Inner-clause-before
returns-in_err-cell-in-Inner-clause-before g c = λ first bs is node used apart. never_ok c.from_residual-in_err-cell-in-Inner.result _ _ c.from_residual-in_err-cell-in-Inner.ensures.1

pub returns-in_err-cell-in-Inner-clause-behind : goal.returns-in_err-cell-in-Inner-clause-behind
returns-in_err-cell-in-Inner-clause-behind g c = λ first bs is node used apart. never_ok c.from_residual-in_err-cell-in-Inner.result _ _ c.from_residual-in_err-cell-in-Inner.ensures.1

pub returns-in_err-cell-in-Inner-clause-small : goal.returns-in_err-cell-in-Inner-clause-small
returns-in_err-cell-in-Inner-clause-small g c = never_ok c.from_residual-in_err-cell-in-Inner.result _ _ c.from_residual-in_err-cell-in-Inner.ensures.1

pub returns-in_err-cell-in-Inner-clause-whole : goal.returns-in_err-cell-in-Inner-clause-whole
returns-in_err-cell-in-Inner-clause-whole g c = never_ok c.from_residual-in_err-cell-in-Inner.result _ _ c.from_residual-in_err-cell-in-Inner.ensures.1

pub returns-in_err-cell-in-Inner-clause-refusal : goal.returns-in_err-cell-in-Inner-clause-refusal
returns-in_err-cell-in-Inner-clause-refusal g c = memory_refused c.from_residual-in_err-cell-in-Inner.result (g.S.PageSpace.at_limit c.read_node.new.space) _ _ _ c.from_residual-in_err-cell-in-Inner.ensures.1

pub returns-in_err-cell-in-Inner-clause-rising : goal.returns-in_err-cell-in-Inner-clause-rising
returns-in_err-cell-in-Inner-clause-rising g c = c.read_node.ensures.rising

pub returns-in_err-cell-in-Inner-clause-follows : goal.returns-in_err-cell-in-Inner-clause-follows
returns-in_err-cell-in-Inner-clause-follows g c = c.read_node.ensures.follows

pub returns-in_ok-cell-in-Inner-clause-small : goal.returns-in_ok-cell-in-Inner-clause-small
returns-in_ok-cell-in-Inner-clause-small g c = c.add_child.ensures.small

pub returns-in_ok-cell-in-Inner-clause-whole : goal.returns-in_ok-cell-in-Inner-clause-whole
returns-in_ok-cell-in-Inner-clause-whole g c = kept_from c.add_child.result _ _ _ c.read_node.ensures.whole c.add_child.ensures.whole

pub returns-in_ok-cell-in-Inner-clause-rising : goal.returns-in_ok-cell-in-Inner-clause-rising
returns-in_ok-cell-in-Inner-clause-rising g c = le_trans c.read_node.ensures.rising c.add_child.ensures.rising

pub returns-in_ok-cell-in-Inner-clause-follows : goal.returns-in_ok-cell-in-Inner-clause-follows
returns-in_ok-cell-in-Inner-clause-follows g c = g.met.S.PageReader.follows_trans _ _ _ c.read_node.ensures.follows c.add_child.ensures.follows

pub returns-in-Leaf-clause-before : goal.returns-in-Leaf-clause-before
returns-in-Leaf-clause-before g c = λ first bs is node used apart. tt

pub returns-in-Leaf-clause-behind : goal.returns-in-Leaf-clause-behind
returns-in-Leaf-clause-behind g c = λ first bs is node used apart. tt

pub returns-in-Leaf-clause-small : goal.returns-in-Leaf-clause-small
returns-in-Leaf-clause-small g c = tt

pub returns-in-Leaf-clause-whole : goal.returns-in-Leaf-clause-whole
returns-in-Leaf-clause-whole g c = tt

pub returns-in-Leaf-clause-rising : goal.returns-in-Leaf-clause-rising
returns-in-Leaf-clause-rising g c = c.read_node.ensures.rising

pub returns-in-Leaf-clause-follows : goal.returns-in-Leaf-clause-follows
returns-in-Leaf-clause-follows g c = c.read_node.ensures.follows

pub kind-requires : goal.kind-requires
kind-requires g c = tt

pub add_child-requires-clause-inner : goal.add_child-requires-clause-inner
add_child-requires-clause-inner g c = sym c.in-Inner.ensures

pub add_child-requires-clause-fits : goal.add_child-requires-clause-fits
add_child-requires-clause-fits g c = c.in_ok-node.ensures.fits
