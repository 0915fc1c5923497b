use Rattle.std.proofs.Common.{◌≡◌, ◌∙◌, sym, subst, true, false, arith}
use Rattle.tablestore.specs.Held.{RowFits}
use Rattle.tablestore.proofs.FittingLemmas.{all_step, all_at}
use Rattle.tablestore.proofs.fitting.are_fitting.Goals as goal

pub loop-row-preserved : goal.loop-row-preserved
loop-row-preserved c =
    all_step (RowFits c.args.columns.now) c.args.rows.now c.loop-row.row-index c.row-item.result (omega arith)
    (subst (RowFits c.args.columns.now) c.row-item.is (sym c.is_fitting.ensures ∙ c.if-not-is_fitting.false)) c.loop-row.invariant

pub returns-then-not-is_fitting-clause-others : goal.returns-then-not-is_fitting-clause-others
returns-then-not-is_fitting-clause-others c = λ all.
    let fits : RowFits c.args.columns.now c.row-item.result = subst (RowFits c.args.columns.now) (sym c.row-item.is) (all_at (RowFits c.args.columns.now) c.args.rows.now c.loop-row.row-index c.row-item.result (omega arith) all) in
    let yes : c.is_fitting.result ≡ true = c.is_fitting.ensures ∙ fits in
    let not_so = c.if-not-is_fitting.true in
    absurd (cc)
