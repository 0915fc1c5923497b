use Rattle.std.proofs.Common.{[], ◌∙◌, sym}
use Rattle.std.proofs.lemmas.Result.{err_from_is_err_and}
use Rattle.denote.specs.Database.{table_of}
use Rattle.query_answers.specs.Lent.{rows_lent}
use Rattle.query_answers.proofs.InsertLemmas.{Gives-together_item, together-next}
use Rattle.update_delete.specs.Given.{update_given}
use Rattle.update_delete.proofs.updating.all_updates.Goals as goal

pub returns-in_err-row_update : goal.returns-in_err-row_update
returns-in_err-row_update c =
    let p = err_from_is_err_and c.from_residual.result c.from_residual.ensures.1 in
    let change = update_given (rows_lent c.args.lent.now.tables) c.args.checks.now (table_of c.args.table.now []) c.args.update.now in
    rw (p.1, p.2, ← c.loop-row.invariant) (Gives-together_item _ change c.loop-row.changes c.args.rows.now c.loop-row.row-index c.row-item.result c.loop-row-test.true c.row-item.is (rw c.as_slice.ensures at c.in_err-row_update.ensures))

pub loop-row-preserved : goal.loop-row-preserved
loop-row-preserved c =
    let change = update_given (rows_lent c.args.lent.now.tables) c.args.checks.now (table_of c.args.table.now []) c.args.update.now in
    rw c.in_ok-push.ensures.ok
    (sym (together-next change c.loop-row.changes c.args.rows.now c.loop-row.row-index c.row-item.result _ c.loop-row-test.true c.row-item.is (rw c.as_slice.ensures at c.in_ok-row_update.ensures.ok))
    ∙ c.loop-row.invariant)
