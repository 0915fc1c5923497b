use Rattle.std.proofs.Common.{map, ℕ}
use Rattle.std.proofs.lemmas.Result.{err_from_is_err_and}
use Rattle.sqlval.specs.declared.schema.Column.{Column}
use Rattle.denote.specs.Expression.{cell}
use Rattle.denote.specs.StoredRow.{given_for, value_for}
use Rattle.query_answers.specs.Lent.{rows_lent}
use Rattle.query_answers.proofs.InsertLemmas.{Gives-together_place}
use Rattle.update_delete.specs.Given.{value_at}
use Rattle.update_delete.proofs.assigned.assigned_row.Goals as goal

pub returns-in_err-column_value : goal.returns-in_err-column_value
returns-in_err-column_value c =
    let p = err_from_is_err_and c.from_residual.result c.from_residual.ensures.1 in
    let values = map (value_at (rows_lent c.args.lent.now.tables) c.args.row.now) c.args.update.now.sources in
    let value = λ (c' : ℕ × Column). value_for (given_for c'.0 c.args.update.now.columns values) c'.1 (cell c.args.row.now c'.0) in
    rw (p.1, p.2, ← c.loop-place.invariant) (Gives-together_place _ value c.loop-place.new c.args.columns.now c.loop-place.place c.index-columns-place.result c.loop-place-test.true c.index-columns-place.is c.in_err-column_value.ensures)
