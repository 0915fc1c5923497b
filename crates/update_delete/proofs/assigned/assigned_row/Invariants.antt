use Rattle.std.proofs.Common.{◌≡◌, ℕ, drop, map}
use Rattle.std.specs.List.{enumerate_from}
use Rattle.sqlval.specs.declared.schema.Column.{Column}
use Rattle.denote.specs.Evaluation.{together}
use Rattle.denote.specs.Expression.{cell}
use Rattle.denote.specs.StoredRow.{given_for, value_for}
use Rattle.denote.proofs.GivesLemmas.{after}
use Rattle.query_answers.specs.Lent.{rows_lent}
use Rattle.update_delete.specs.Given.{value_at}
use Rattle.update_delete.proofs.assigned.assigned_row.Given as goal

-- the values so far, and then those of the columns that are left
abbrev pub invariant-loop-place : goal.invariant-loop-place
invariant-loop-place l =
    let values = map (value_at (rows_lent l.lent.tables) l.row) l.update.sources in
    let value = λ (c : ℕ × Column). value_for (given_for c.0 l.update.columns values) c.1 (cell l.row c.0) in
    after l.new (together (map value (enumerate_from l.place (drop l.place l.columns)))) ≡ together (map value (enumerate_from 0 l.columns))
