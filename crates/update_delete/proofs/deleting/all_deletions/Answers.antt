use Rattle.std.proofs.lemmas.Result.{err_from_is_err_and}
use Rattle.query_answers.specs.Lent.{rows_lent}
use Rattle.query_answers.proofs.InsertLemmas.{Gives-together_item}
use Rattle.update_delete.specs.Given.{deletion_given}
use Rattle.update_delete.proofs.deleting.all_deletions.Goals as goal

pub returns-in_err-deletion : goal.returns-in_err-deletion
returns-in_err-deletion c =
    let p = err_from_is_err_and c.from_residual.result c.from_residual.ensures.1 in
    let change = deletion_given (rows_lent c.args.lent.now.tables) c.args.filter.now in
    rw (p.1, p.2, ← c.loop-row.invariant) (Gives-together_item _ change c.loop-row.changes c.args.rows.now c.loop-row.row-index c.row-item.result c.loop-row-test.true c.row-item.is (rw c.as_slice.ensures at c.in_err-deletion.ensures))
