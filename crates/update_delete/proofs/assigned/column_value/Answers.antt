use Rattle.std.proofs.lemmas.Result.{err_from_is_err_and}
use Rattle.sqlval.specs.Storing.{stored}
use Rattle.denote.specs.Evaluation.{given}
use Rattle.denote.specs.Expression.{cell}
use Rattle.denote.proofs.GivesLemmas.{Gives-first}
use Rattle.query_answers.specs.Lent.{rows_lent}
use Rattle.query_answers.proofs.InsertLemmas.{given_for-map}
use Rattle.update_delete.specs.Given.{value_at}
use Rattle.update_delete.proofs.assigned.column_value.Goals as goal

pub returns-in-None : goal.returns-in-None
returns-in-None c =
    let e = rw (c.as_slice.ensures, c.as_slice-2.ensures) at c.in-None.ensures in
    let f = value_at (rows_lent c.args.lent.now.tables) c.args.row.now in
    rw (given_for-map f c.args.place c.args.update.now.columns c.args.update.now.sources, ← e) (c.kept_value.ensures (cell c.args.row.now c.args.place) c.copied_cell.ensures)

pub returns-in_err-value-in-Some : goal.returns-in_err-value-in-Some
returns-in_err-value-in-Some c =
    let e = rw (c.as_slice.ensures, c.as_slice-2.ensures) at c.in-Some.ensures in
    let p = err_from_is_err_and c.from_residual.result c.from_residual.ensures.1 in
    let f = value_at (rows_lent c.args.lent.now.tables) c.args.row.now in
    rw (p.1, p.2, given_for-map f c.args.place c.args.update.now.columns c.args.update.now.sources, ← e)
    (Gives-first _ (f c.in-Some.source.now) (λ x. given (stored x c.args.column.now.column_type)) c.in_err-value-in-Some.ensures)

pub returns-in_ok-value-in-Some : goal.returns-in_ok-value-in-Some
returns-in_ok-value-in-Some c =
    let e = rw (c.as_slice.ensures, c.as_slice-2.ensures) at c.in-Some.ensures in
    let f = value_at (rows_lent c.args.lent.now.tables) c.args.row.now in
    rw (given_for-map f c.args.place c.args.update.now.columns c.args.update.now.sources, ← e, c.in_ok-value-in-Some.ensures.ok) c.store.ensures
