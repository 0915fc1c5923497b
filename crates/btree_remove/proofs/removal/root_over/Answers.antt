use Rattle.btree_read.proofs.NodeLemmas.{never_ok, err_passed}
use Rattle.btree.proofs.RefusalLemmas.{memory_refused}
use Rattle.std.proofs.Common.{le_trans, ◌≡◌, ◌∙◌, ap}
use Rattle.btree_read.specs.Nodes.{branch_of}
use Rattle.btree.proofs.CellLemmas.{branch_is}
use Rattle.btree_remove.proofs.RootLemmas.{is_root_over}
use Rattle.btree_remove.proofs.removal.root_over.Goals as goal

pub returns-clause-over : goal.returns-clause-over
returns-clause-over g c =
    let is : branch_of c.as_slice-2.result.now ≡ c.args.branch.now =
    ap branch_of c.as_slice-2.ensures ∙ branch_is _ _ _ c.in_ok-cell.ensures ∙ (λ i. record { key = c.as_slice.ensures i; child = c.args.branch.now.child }) in
    is_root_over _ _ _ _ _ _ c.as_slice-2.result.now c.in_ok-page.ensures.fresh c.in_ok-page.ensures.others c.in_ok-write_page.ensures.node c.in_ok-write_page.ensures.others is c.requires

pub returns-in_err-cell-clause-over : goal.returns-in_err-cell-clause-over
returns-in_err-cell-clause-over g c = never_ok c.from_residual.result _ _ c.from_residual.ensures.1

pub returns-in_err-cell-clause-whole : goal.returns-in_err-cell-clause-whole
returns-in_err-cell-clause-whole g c = never_ok c.from_residual.result _ _ c.from_residual.ensures.1

pub returns-in_err-cell-clause-refusal : goal.returns-in_err-cell-clause-refusal
returns-in_err-cell-clause-refusal g c = memory_refused c.from_residual.result (g.S.PageSpace.at_limit c.args.space.now) _ _ _ c.from_residual.ensures.1

pub returns-in_err-cell-clause-follows : goal.returns-in_err-cell-clause-follows
returns-in_err-cell-clause-follows g c = g.met.S.PageReader.follows_refl _

pub returns-in_err-page-clause-over : goal.returns-in_err-page-clause-over
returns-in_err-page-clause-over g c = never_ok c.from_residual-in_err-page.result _ _ c.from_residual-in_err-page.ensures.1

pub returns-in_err-page-clause-whole : goal.returns-in_err-page-clause-whole
returns-in_err-page-clause-whole g c = never_ok c.from_residual-in_err-page.result _ _ c.from_residual-in_err-page.ensures.1

pub returns-in_err-page-clause-refusal : goal.returns-in_err-page-clause-refusal
returns-in_err-page-clause-refusal g c = err_passed c.from_residual-in_err-page.result c.in_err-page.field-0.0 _ c.from_residual-in_err-page.ensures.1 c.in_err-page.ensures.refusal

pub returns-in_err-page-clause-rising : goal.returns-in_err-page-clause-rising
returns-in_err-page-clause-rising g c = c.in_err-page.ensures.rising

pub returns-in_err-page-clause-follows : goal.returns-in_err-page-clause-follows
returns-in_err-page-clause-follows g c = c.in_err-page.ensures.follows

pub returns-in_err-write_page-clause-over : goal.returns-in_err-write_page-clause-over
returns-in_err-write_page-clause-over g c = never_ok c.from_residual-in_err-write_page.result _ _ c.from_residual-in_err-write_page.ensures.1

pub returns-in_err-write_page-clause-whole : goal.returns-in_err-write_page-clause-whole
returns-in_err-write_page-clause-whole g c = never_ok c.from_residual-in_err-write_page.result _ _ c.from_residual-in_err-write_page.ensures.1

pub returns-in_err-write_page-clause-rising : goal.returns-in_err-write_page-clause-rising
returns-in_err-write_page-clause-rising g c = le_trans c.in_ok-page.ensures.rising c.in_err-write_page.ensures.rising

pub returns-in_err-write_page-clause-follows : goal.returns-in_err-write_page-clause-follows
returns-in_err-write_page-clause-follows g c = g.met.S.PageReader.follows_trans _ _ _ c.in_ok-page.ensures.follows c.in_err-write_page.ensures.follows

pub returns-clause-whole : goal.returns-clause-whole
returns-clause-whole g c = λ w. c.in_ok-write_page.ensures.whole (c.in_ok-page.ensures.whole w)

pub returns-clause-refusal : goal.returns-clause-refusal
returns-clause-refusal g c = tt

pub returns-clause-rising : goal.returns-clause-rising
returns-clause-rising g c = le_trans c.in_ok-page.ensures.rising c.in_ok-write_page.ensures.rising

pub returns-clause-follows : goal.returns-clause-follows
returns-clause-follows g c = g.met.S.PageReader.follows_trans _ _ _ c.in_ok-page.ensures.follows c.in_ok-write_page.ensures.follows
