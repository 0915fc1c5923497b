use Rattle.std.proofs.Common.{map, ℕ}
use Rattle.std.proofs.lemmas.Result.{err_from_is_err_and}
use Rattle.sqlval.specs.declared.schema.Column.{Column}
use Rattle.sqlval.specs.declared.value.Value.TheVariants.{Null}
use Rattle.query_answers.specs.Lent.{rows_lent}
use Rattle.query_answers.specs.Sources.{source_value}
use Rattle.denote.specs.StoredRow.{given_for, value_for}
use Rattle.query_answers.proofs.InsertLemmas.{Gives-together_place}
use Rattle.query_answers.proofs.rows.source_row.Goals as goal

pub returns-in_err-column_value : goal.returns-in_err-column_value
returns-in_err-column_value c =
    let p = err_from_is_err_and c.from_residual.result c.from_residual.ensures.1 in
    let values = map (λ source. source_value (rows_lent c.args.lent.now.tables) source) c.args.sources.now in
    let value = λ (c' : ℕ × Column). value_for (given_for c'.0 c.args.columns.now values) c'.1 Null in
    rw (p.1, p.2, ← c.loop-place.invariant) (Gives-together_place _ value c.loop-place.row c.args.table_columns.now c.loop-place.place c.index-table_columns-place.result c.loop-place-test.true c.index-table_columns-place.is c.in_err-column_value.ensures)
