-- What trees give for a row of a table, over tables that are lent (ISO/IEC 9075:1992, 13.7, 13.10).
use Rattle.std.specs.Prelude.{Bool, true, false, List, [], ◌∷◌, map, Option, Some, None, Ok}
use Rattle.sqlval.specs.declared.truth.Truth.TheVariants.{True}
use Rattle.sqlval.specs.declared.value.Value.{Value}
use Rattle.sqlval.specs.Truth.{same_truth}
use Rattle.sqlval.specs.Value.{Row}
use Rattle.algebra.specs.declared.tree.Condition.{Condition}
use Rattle.algebra.specs.declared.tree.Expression.{Expression}
use Rattle.algebra.specs.Listing.{truth_listing, value_listing}
use Rattle.denote.specs.Database.{Table}
use Rattle.denote.specs.Evaluation.{Evaluation, ◌>>=◌}
use Rattle.denote.specs.Meaning.{Tables}
use Rattle.denote.specs.StoredRow.{row_with}
use Rattle.query_answers.specs.Sources.{admitted_row}
use Rattle.update_delete.specs.declared.change.RowChange.{RowChange}
use Rattle.update_delete.specs.declared.change.RowChange.TheVariants.{Stays, Goes, Becomes}
use Rattle.update_delete.specs.declared.change.RowUpdate.{RowUpdate}

-- whether a row is touched
abbrev pub touched_given : Tables → Option Condition → Row → Evaluation Bool
touched_given tables None row = Ok true
touched_given tables (Some tree) row = truth_listing tables tree (row ∷ []) >>= (λ t. Ok (same_truth t True))

-- a row that a DELETE touches goes
abbrev pub gone_if : Bool → RowChange
gone_if true = Goes
gone_if false = Stays

abbrev pub deletion_given : Tables → Option Condition → Row → Evaluation RowChange
deletion_given tables filter row = touched_given tables filter row >>= (λ touched. Ok (gone_if touched))

-- the source of an UPDATE at a row
abbrev pub value_at : Tables → Row → Expression → Evaluation Value
value_at tables row source = value_listing tables source (row ∷ [])

-- a row after its assignments
abbrev pub assigned_given : Tables → List Condition → Table → RowUpdate → Row → Evaluation Row
assigned_given tables checks table u row = admitted_row checks table (row_with table.columns u.columns (map (value_at tables row) u.sources) row)

-- a row that an UPDATE touches becomes the new one
abbrev pub replaced_if : Evaluation Row → Bool → Evaluation RowChange
replaced_if new true = new >>= (λ row. Ok (Becomes row))
replaced_if new false = Ok Stays

abbrev pub update_given : Tables → List Condition → Table → RowUpdate → Row → Evaluation RowChange
update_given tables checks table u row = touched_given tables u.filter row >>= replaced_if (assigned_given tables checks table u row)
