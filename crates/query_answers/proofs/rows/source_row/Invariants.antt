use Rattle.std.proofs.Common.{◌≡◌, ℕ, drop, map}
use Rattle.std.specs.List.{enumerate_from}
use Rattle.sqlval.specs.declared.schema.Column.{Column}
use Rattle.sqlval.specs.declared.value.Value.TheVariants.{Null}
use Rattle.denote.specs.Evaluation.{together}
use Rattle.query_answers.specs.Lent.{rows_lent}
use Rattle.query_answers.specs.Sources.{source_value}
use Rattle.denote.specs.StoredRow.{given_for, value_for}
use Rattle.denote.proofs.GivesLemmas.{after}
use Rattle.query_answers.proofs.rows.source_row.Given as goal

-- the values so far, and then those of the columns that are left
abbrev pub invariant-loop-place : goal.invariant-loop-place
invariant-loop-place l =
    let values = map (λ source. source_value (rows_lent l.lent.tables) source) l.sources in
    let value = λ (c : ℕ × Column). value_for (given_for c.0 l.columns values) c.1 Null in
    after l.row (together (map value (enumerate_from l.place (drop l.place l.table_columns)))) ≡ together (map value (enumerate_from 0 l.table_columns))
