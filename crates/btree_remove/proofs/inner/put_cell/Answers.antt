use Rattle.btree_read.proofs.NodeLemmas.{never_ok}
use Rattle.std.proofs.Common.{◌≡◌, ◌∙◌, refl, ap, map, subst, true, IsSome}
use Rattle.sqlrecord.specs.declared.kind.PageKind.TheVariants.{Inner}
use Rattle.sqlrecord.specs.Build.{lent}
use Rattle.sqlrecord.specs.Page.{AreCells}
use Rattle.btree_read.specs.Nodes.{branch_of}
use Rattle.btree.proofs.RefusalLemmas.{memory_refused, change_harm_on}
use Rattle.btree_remove.proofs.WithoutLemmas.{over_are, over_refused, over_written, stocked_over, branches_over}
use Rattle.btree_remove.proofs.inner.put_cell.Goals as goal

pub returns-clause-written : goal.returns-clause-written
returns-clause-written g c = λ used stocked.
    over_written _ _ _ _ _ _ _
    (ap (map branch_of) (ap lent c.as_slice-2.ensures.value ∙ c.in_ok-cells.ensures.with) ∙ branches_over c.args.at c.args.behind c.args.cell.now c.args.node.now.cells)
    (stocked_over c.args.first c.args.node.now.link _ c.args.at c.args.behind _ c.requires.small stocked) (c.write_inner.ensures.written used)

pub returns-then-not-are_cells-clause-refusal : goal.returns-then-not-are_cells-clause-refusal
returns-then-not-are_cells-clause-refusal g c = λ lo used whole stocked rises.
    let cells : AreCells Inner c.args.node.now.cells = subst (λ k. AreCells k c.args.node.now.cells) c.requires.inner c.in_ok-cells.ensures.cells in
    let yes : c.are_cells.result ≡ true =
    c.are_cells.ensures.1 (over_are c.args.node.now.cells _ c.args.at c.args.behind c.args.cell.now lo (ap lent c.as_slice.ensures.value ∙ c.in_ok-cells.ensures.with)
    c.requires.order c.requires.within cells c.requires.cell rises) in
    cc (yes, c.if-not-are_cells.true)

pub returns-clause-refusal : goal.returns-clause-refusal
returns-clause-refusal g c =
    change_harm_on c.write_inner.result (g.S.PageSpace.at_limit c.write_inner.new.space) _ _ (g.S.PageReader.refused c.args.space.now) (g.S.PageReader.refused c.write_inner.new.space)
    (over_refused (IsSome (g.S.PageReader.pages c.args.space.now c.args.page)) (g.S.PageReader.is_whole c.args.space.now) c.args.node.now.cells _ c.args.at c.args.behind c.args.cell.now
    c.args.first c.args.node.now.link (branch_of c.args.cell.now) (ap lent c.as_slice-2.ensures.value ∙ c.in_ok-cells.ensures.with) refl c.requires.order c.requires.fits c.requires.cell c.requires.small)
    c.write_inner.ensures.refusal

pub returns-in_err-cells-clause-written : goal.returns-in_err-cells-clause-written
returns-in_err-cells-clause-written g c = λ used stocked. never_ok c.from_residual.result _ _ c.from_residual.ensures.1

pub returns-in_err-cells-clause-small : goal.returns-in_err-cells-clause-small
returns-in_err-cells-clause-small g c = never_ok c.from_residual.result _ _ c.from_residual.ensures.1

pub returns-in_err-cells-clause-whole : goal.returns-in_err-cells-clause-whole
returns-in_err-cells-clause-whole g c = never_ok c.from_residual.result _ _ c.from_residual.ensures.1

pub returns-in_err-cells-clause-refusal : goal.returns-in_err-cells-clause-refusal
returns-in_err-cells-clause-refusal g c = memory_refused c.from_residual.result (g.S.PageSpace.at_limit c.args.space.now) _ _ _ c.from_residual.ensures.1

pub returns-in_err-cells-clause-follows : goal.returns-in_err-cells-clause-follows
returns-in_err-cells-clause-follows g c = g.met.S.PageReader.follows_refl _

pub returns-then-not-are_cells-clause-written : goal.returns-then-not-are_cells-clause-written
returns-then-not-are_cells-clause-written g c = λ used stocked. tt

pub returns-then-not-are_cells-clause-small : goal.returns-then-not-are_cells-clause-small
returns-then-not-are_cells-clause-small g c = tt

pub returns-then-not-are_cells-clause-whole : goal.returns-then-not-are_cells-clause-whole
returns-then-not-are_cells-clause-whole g c = tt

pub returns-then-not-are_cells-clause-follows : goal.returns-then-not-are_cells-clause-follows
returns-then-not-are_cells-clause-follows g c = g.met.S.PageReader.follows_refl _

pub returns-clause-small : goal.returns-clause-small
returns-clause-small g c = c.write_inner.ensures.small

pub returns-clause-whole : goal.returns-clause-whole
returns-clause-whole g c = c.write_inner.ensures.whole

pub returns-clause-rising : goal.returns-clause-rising
returns-clause-rising g c = c.write_inner.ensures.rising

pub returns-clause-follows : goal.returns-clause-follows
returns-clause-follows g c = c.write_inner.ensures.follows
