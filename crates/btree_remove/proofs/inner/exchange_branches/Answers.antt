use Rattle.btree_read.proofs.NodeLemmas.{never_ok, err_passed}
use Rattle.std.proofs.Common.{le_trans, ◌≡◌, ◌∙◌, sym, ap, subst}
use Rattle.std.specs.Prelude.{IfSome}
use Rattle.sqlrecord.specs.declared.kind.PageKind.TheVariants.{Inner}
use Rattle.sqlrecord.specs.Page.{IsCell}
use Rattle.btree_read.specs.Nodes.{branch_of, IsSmallBranch}
use Rattle.btree.proofs.CellLemmas.{branch_is}
use Rattle.btree.proofs.RefusalLemmas.{memory_refused, kept_from, change_refused, change_refused_on, read_as_change}
use Rattle.btree_remove.proofs.PageSteps.{page_not_read, page_is_other, without_branch, with_branch, none_not_left_out, branch_not_written, is_none}
use Rattle.btree_remove.proofs.inner.exchange_branches.Goals as goal

pub returns-in_err-node-clause-refusal : goal.returns-in_err-node-clause-refusal
returns-in_err-node-clause-refusal g c =
    err_passed c.from_residual.result c.in_err-node.field-0.0 _ c.from_residual.ensures.1
    (read_as_change (g.S.PageSpace.at_limit c.read_node.new.space) _ _ (g.S.PageReader.refused c.args.space.now) (g.S.PageReader.refused c.read_node.new.space) _
    (page_not_read _ _ c.args.at c.args.behind c.args.branch (g.S.PageReader.is_whole c.args.space.now)) c.in_err-node.ensures.refusal)

pub returns-then-not-has_branches-clause-refusal : goal.returns-then-not-has_branches-clause-refusal
returns-then-not-has_branches-clause-refusal g c =
    page_is_other _ _ _ c.args.at c.args.behind c.args.branch (g.S.PageReader.is_whole c.args.space.now) c.in_ok-node.ensures.node (c.has_branches.ensures.other c.if-not-has_branches.true)

pub leave_out-requires-clause-within : goal.leave_out-requires-clause-within
leave_out-requires-clause-within g c = (c.has_branches.ensures.inner c.if-not-has_branches.false).1

pub leave_out-requires-clause-inner : goal.leave_out-requires-clause-inner
leave_out-requires-clause-inner g c = (c.has_branches.ensures.inner c.if-not-has_branches.false).0

pub put_cell-requires-clause-within : goal.put_cell-requires-clause-within
put_cell-requires-clause-within g c = (c.has_branches.ensures.inner c.if-not-has_branches.false).1

pub put_cell-requires-clause-inner : goal.put_cell-requires-clause-inner
put_cell-requires-clause-inner g c = (c.has_branches.ensures.inner c.if-not-has_branches.false).0

pub put_cell-requires-clause-cell : goal.put_cell-requires-clause-cell
put_cell-requires-clause-cell g c = subst (IsCell Inner) (sym c.as_slice-2.ensures) c.in_ok-cell.ensures.formed

pub put_cell-requires-clause-small : goal.put_cell-requires-clause-small
put_cell-requires-clause-small g c =
    let is : branch_of c.as_slice-2.result.now ≡ c.in-Some.branch =
    ap branch_of c.as_slice-2.ensures ∙ branch_is _ _ _ c.in_ok-cell.ensures ∙ (λ i. record { key = c.as_slice.ensures i; child = c.in-Some.branch.child }) in
    subst IsSmallBranch (sym is) (subst (λ o. IfSome o IsSmallBranch) c.in-Some.is c.requires.small)

pub returns-in_default-clause-written : goal.returns-in_default-clause-written
returns-in_default-clause-written g c =
    without_branch _ _ _ _ _ c.args.at c.args.behind c.args.branch c.leave_out.result c.in_ok-node.ensures.same c.in_ok-node.ensures.node (is_none _ c.in_default.not-Some) c.leave_out.ensures.written

pub returns-in_default-clause-refusal : goal.returns-in_default-clause-refusal
returns-in_default-clause-refusal g c =
    change_refused_on c.leave_out.result (g.S.PageSpace.at_limit c.leave_out.new.space) _ _ (g.S.PageReader.refused c.args.space.now) (g.S.PageReader.refused c.read_node.new.space) (g.S.PageReader.refused c.leave_out.new.space)
    c.in_ok-node.ensures.rising
    (none_not_left_out _ _ _ c.args.at c.args.behind c.args.branch (g.S.PageReader.is_whole c.args.space.now) c.in_ok-node.ensures.same) c.leave_out.ensures.refusal

pub returns-in_err-split-clause-refusal : goal.returns-in_err-split-clause-refusal
returns-in_err-split-clause-refusal g c =
    let is : branch_of c.as_slice-2.result.now ≡ c.in-Some.branch =
    ap branch_of c.as_slice-2.ensures ∙ branch_is _ _ _ c.in_ok-cell.ensures ∙ (λ i. record { key = c.as_slice.ensures i; child = c.in-Some.branch.child }) in
    err_passed c.from_residual-in_err-split.result c.in_err-split.field-0.0 _ c.from_residual-in_err-split.ensures.1
    (change_refused (g.S.PageSpace.at_limit c.put_cell.new.space) _ _ (g.S.PageReader.refused c.args.space.now) (g.S.PageReader.refused c.read_node.new.space) (g.S.PageReader.refused c.put_cell.new.space) _
    c.in_ok-node.ensures.rising
    (branch_not_written _ _ _ _ c.args.at c.args.behind c.args.branch c.in-Some.branch (branch_of c.as_slice-2.result.now) (g.S.PageReader.is_whole c.args.space.now) (g.S.PageReader.is_whole c.read_node.new.space)
    c.in_ok-node.ensures.same c.in_ok-node.ensures.node c.in-Some.is is c.in_ok-node.ensures.whole) c.in_err-split.ensures.refusal)

pub returns-clause-written : goal.returns-clause-written
returns-clause-written g c =
    let is : branch_of c.as_slice-2.result.now ≡ c.in-Some.branch =
    ap branch_of c.as_slice-2.ensures ∙ branch_is _ _ _ c.in_ok-cell.ensures ∙ (λ i. record { key = c.as_slice.ensures i; child = c.in-Some.branch.child }) in
    with_branch _ _ _ _ _ _ c.args.at c.args.behind c.args.branch c.in-Some.branch (branch_of c.as_slice-2.result.now) _ c.in_ok-node.ensures.same c.in_ok-node.ensures.node c.in-Some.is is c.link.ensures
    c.in_ok-split.ensures.written

pub returns-in_err-node-clause-written : goal.returns-in_err-node-clause-written
returns-in_err-node-clause-written g c = λ first bs node within. never_ok c.from_residual.result _ _ c.from_residual.ensures.1

pub returns-in_err-node-clause-small : goal.returns-in_err-node-clause-small
returns-in_err-node-clause-small g c = never_ok c.from_residual.result _ _ c.from_residual.ensures.1

pub returns-in_err-node-clause-whole : goal.returns-in_err-node-clause-whole
returns-in_err-node-clause-whole g c = never_ok c.from_residual.result _ _ c.from_residual.ensures.1

pub returns-in_err-node-clause-rising : goal.returns-in_err-node-clause-rising
returns-in_err-node-clause-rising g c = c.read_node.ensures.rising

pub returns-in_err-node-clause-follows : goal.returns-in_err-node-clause-follows
returns-in_err-node-clause-follows g c = c.read_node.ensures.follows

pub returns-then-not-has_branches-clause-written : goal.returns-then-not-has_branches-clause-written
returns-then-not-has_branches-clause-written g c = λ first bs node within. tt

pub returns-then-not-has_branches-clause-small : goal.returns-then-not-has_branches-clause-small
returns-then-not-has_branches-clause-small g c = tt

pub returns-then-not-has_branches-clause-whole : goal.returns-then-not-has_branches-clause-whole
returns-then-not-has_branches-clause-whole g c = tt

pub returns-then-not-has_branches-clause-rising : goal.returns-then-not-has_branches-clause-rising
returns-then-not-has_branches-clause-rising g c = c.read_node.ensures.rising

pub returns-then-not-has_branches-clause-follows : goal.returns-then-not-has_branches-clause-follows
returns-then-not-has_branches-clause-follows g c = c.read_node.ensures.follows

pub returns-in_default-clause-small : goal.returns-in_default-clause-small
returns-in_default-clause-small g c = c.leave_out.ensures.small

pub returns-in_default-clause-whole : goal.returns-in_default-clause-whole
returns-in_default-clause-whole g c = kept_from c.leave_out.result _ _ _ c.read_node.ensures.whole c.leave_out.ensures.whole

pub returns-in_default-clause-rising : goal.returns-in_default-clause-rising
returns-in_default-clause-rising g c = le_trans c.read_node.ensures.rising c.leave_out.ensures.rising

pub returns-in_default-clause-follows : goal.returns-in_default-clause-follows
returns-in_default-clause-follows g c = g.met.S.PageReader.follows_trans _ _ _ c.read_node.ensures.follows c.leave_out.ensures.follows

pub returns-in_err-cell-clause-written : goal.returns-in_err-cell-clause-written
returns-in_err-cell-clause-written g c = λ first bs node within. never_ok c.from_residual-in_err-cell.result _ _ c.from_residual-in_err-cell.ensures.1

pub returns-in_err-cell-clause-small : goal.returns-in_err-cell-clause-small
returns-in_err-cell-clause-small g c = never_ok c.from_residual-in_err-cell.result _ _ c.from_residual-in_err-cell.ensures.1

pub returns-in_err-cell-clause-whole : goal.returns-in_err-cell-clause-whole
returns-in_err-cell-clause-whole g c = never_ok c.from_residual-in_err-cell.result _ _ c.from_residual-in_err-cell.ensures.1

pub returns-in_err-cell-clause-refusal : goal.returns-in_err-cell-clause-refusal
returns-in_err-cell-clause-refusal g c = memory_refused c.from_residual-in_err-cell.result (g.S.PageSpace.at_limit c.read_node.new.space) _ _ _ c.from_residual-in_err-cell.ensures.1

pub returns-in_err-cell-clause-rising : goal.returns-in_err-cell-clause-rising
returns-in_err-cell-clause-rising g c = c.read_node.ensures.rising

pub returns-in_err-cell-clause-follows : goal.returns-in_err-cell-clause-follows
returns-in_err-cell-clause-follows g c = c.read_node.ensures.follows

pub returns-in_err-split-clause-written : goal.returns-in_err-split-clause-written
returns-in_err-split-clause-written g c = λ first bs node within. never_ok c.from_residual-in_err-split.result _ _ c.from_residual-in_err-split.ensures.1

pub returns-in_err-split-clause-small : goal.returns-in_err-split-clause-small
returns-in_err-split-clause-small g c = never_ok c.from_residual-in_err-split.result _ _ c.from_residual-in_err-split.ensures.1

pub returns-in_err-split-clause-whole : goal.returns-in_err-split-clause-whole
returns-in_err-split-clause-whole g c = never_ok c.from_residual-in_err-split.result _ _ c.from_residual-in_err-split.ensures.1

pub returns-in_err-split-clause-rising : goal.returns-in_err-split-clause-rising
returns-in_err-split-clause-rising g c = le_trans c.read_node.ensures.rising c.put_cell.ensures.rising

pub returns-in_err-split-clause-follows : goal.returns-in_err-split-clause-follows
returns-in_err-split-clause-follows g c = g.met.S.PageReader.follows_trans _ _ _ c.read_node.ensures.follows c.put_cell.ensures.follows

pub returns-clause-small : goal.returns-clause-small
returns-clause-small g c = c.in_ok-split.ensures.small

pub returns-clause-whole : goal.returns-clause-whole
returns-clause-whole g c = λ w. c.in_ok-split.ensures.whole (c.read_node.ensures.whole w)

pub returns-clause-refusal : goal.returns-clause-refusal
returns-clause-refusal g c = tt

pub returns-clause-rising : goal.returns-clause-rising
returns-clause-rising g c = le_trans c.read_node.ensures.rising c.in_ok-split.ensures.rising

pub returns-clause-follows : goal.returns-clause-follows
returns-clause-follows g c = g.met.S.PageReader.follows_trans _ _ _ c.read_node.ensures.follows c.in_ok-split.ensures.follows
