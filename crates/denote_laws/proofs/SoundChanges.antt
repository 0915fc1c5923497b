-- A change makes a database, or raises at least one fault, or names at least one constraint.
use Rattle.std.proofs.Common.{ℕ, zero, suc, ◌==◌, Bool, true, false, not, List, [], ◌∷◌, ◌++◌, map, length, Option, Some, None, Ok, Err}
use Rattle.std.specs.Prelude.{filter, flat_map, count_by, slice_get, position, option_and_then}
use Rattle.std.specs.List.{enumerate_from}
use Rattle.std.specs.FinMap.{get, insert}
use Rattle.sqlval.specs.declared.value.Value.{Value}
use Rattle.sqlval.specs.declared.truth.Truth.TheVariants.{True}
use Rattle.sqlval.specs.declared.schema.Column.{Column}
use Rattle.sqlval.specs.Storing.{stored}
use Rattle.sqlval.specs.Truth.{same_truth}
use Rattle.sqlval.specs.Value.{Row}
use Rattle.typing.specs.declared.statement.Change.{Change}
use Rattle.typing.specs.declared.statement.Change.TheVariants as does
use Rattle.typing.specs.declared.statement.InsertSource.{InsertSource}
use Rattle.typing.specs.declared.statement.InsertSource.TheVariants as from
use Rattle.typing.specs.declared.statement.Update.{Update}
use Rattle.typing.specs.declared.statement.Assignment.{Assignment}
use Rattle.typing.specs.declared.statement.Delete.{Delete}
use Rattle.typing.specs.declared.typed.Condition.{Condition}
use Rattle.denote.specs.Evaluation.{Evaluation, ◌>>=◌, given, unless, together}
use Rattle.denote.specs.Expression.{cell}
use Rattle.denote_laws.specs.Law.{IsSound, AreSound}
use Rattle.denote.specs.StoredRow.{given_for, value_for, row_with, row_faults, admitted, inserted_row, key_faults}
use Rattle.denote.specs.Meaning.{Tables, value_of, truth_at, query_outcome}
use Rattle.denote.specs.Database.{Name, IndexDeclaration, Table, Database, rows_in, CheckReading, checks_of, violated_in}
use Rattle.denote.specs.Change.{inserted_rows, is_touched, assigned, updated_if, updated_rows, deleted_rows, Changed, Makes, unless_violated, with_rows, unless_raised, insert_into, update_in, delete_from, index_on, on_table, changed}
use Rattle.denote_laws.proofs.Soundness.{next-sound, unless-sound, together-sound, stored-sound}
use Rattle.denote_laws.specs.Sound.{IsDecided}
use Rattle.denote_laws.proofs.Sound.{AreSound-maps, adding-sound, then-sound}
use Rattle.denote_laws.proofs.SoundTrees.{value-sound, truth-sound}

-- ---- rows that are stored

abbrev IfSound : Option (Evaluation Value) → Type 0
IfSound None = Unit {0}
IfSound (Some x) = IsSound x

slice_get-sound : (xs : List (Evaluation Value)) (i : ℕ) → AreSound xs → IfSound (slice_get xs i)
slice_get-sound [] i h = tt
slice_get-sound (x ∷ xs) zero h = h.0
slice_get-sound (x ∷ xs) (suc i) h = slice_get-sound xs i h.1

given_for-sound : (place : ℕ) (columns : List ℕ) (xs : List (Evaluation Value)) → AreSound xs → IfSound (given_for place columns xs)
given_for-sound place columns xs h = at (position (λ column. column == place) columns)
  where
    at : (found : Option ℕ) → IfSound (option_and_then (slice_get xs) found)
    at None = tt
    at (Some i) = slice_get-sound xs i h

value_for-sound : (value : Option (Evaluation Value)) (column : Column) (old : Value) → IfSound value → IsSound (value_for value column old)
value_for-sound None column old h = tt
value_for-sound (Some value) column old h = next-sound value (λ x. given (stored x column.column_type)) h (λ x. stored-sound x column.column_type)

row_with-sound : (columns : List Column) (places : List ℕ) (values : List (Evaluation Value)) (old : Row) → AreSound values
    → IsSound (row_with columns places values old)
row_with-sound columns places values old h =
    together-sound (map (λ c. value_for (given_for c.0 places values) c.1 (cell old c.0)) (enumerate_from 0 columns))
    (AreSound-maps (λ (c : ℕ × Column). value_for (given_for c.0 places values) c.1 (cell old c.0)) (enumerate_from 0 columns)
    (λ c. value_for-sound (given_for c.0 places values) c.1 (cell old c.0) (given_for-sound c.0 places values h)))

admitted-sound : (checks : List Condition) (table : Table) (row : Evaluation Row) → IsSound row → IsSound (admitted checks table row)
admitted-sound checks table row h = next-sound row (λ r. unless (row_faults checks table r) r) h (λ r. unless-sound (row_faults checks table r) r)

inserted_row-sound : (checks : List Condition) (table : Table) (places : List ℕ) (values : List (Evaluation Value)) → AreSound values
    → IsSound (inserted_row checks table places values)
inserted_row-sound checks table places values h = admitted-sound checks table (row_with table.columns places values [])
    (row_with-sound table.columns places values [] h)

inserted_rows-sound : (checks : List Condition) (tables : Tables) (table : Table) (places : List ℕ) (source : InsertSource)
    → IsSound (inserted_rows checks tables table places source)
inserted_rows-sound checks tables table places (from.Values rows) =
    together-sound (map (λ sources. inserted_row checks table places (map (λ source. value_of tables source []) sources)) rows)
    (AreSound-maps (λ sources. inserted_row checks table places (map (λ source. value_of tables source []) sources)) rows
    (λ sources. inserted_row-sound checks table places (map (λ source. value_of tables source []) sources)
    (AreSound-maps (λ source. value_of tables source []) sources (λ source. value-sound tables source []))))
inserted_rows-sound checks tables table places (from.Query query) =
    let o = query_outcome tables query [] in
    adding-sound o.faults (together (map (λ row. inserted_row checks table places (map Ok row)) o.rows))
    (together-sound (map (λ row. inserted_row checks table places (map Ok row)) o.rows)
    (AreSound-maps (λ row. inserted_row checks table places (map Ok row)) o.rows
    (λ row. inserted_row-sound checks table places (map Ok row) (AreSound-maps (λ (x : Value). Ok x) row (λ x. tt)))))

touched-sound : (tables : Tables) (condition : Option Condition) (row : Row) → IsSound (is_touched tables condition row)
touched-sound tables None row = tt
touched-sound tables (Some condition) row = then-sound (truth_at tables condition (row ∷ [])) (λ t. same_truth t True) (truth-sound tables condition (row ∷ []))

assigned-sound : (checks : List Condition) (tables : Tables) (table : Table) (assignments : List Assignment) (row : Row)
    → IsSound (assigned checks tables table assignments row)
assigned-sound checks tables table assignments row =
    admitted-sound checks table (row_with table.columns (map (λ a. a.column) assignments) (map (λ a. value_of tables a.source (row ∷ [])) assignments) row)
    (row_with-sound table.columns (map (λ a. a.column) assignments) (map (λ a. value_of tables a.source (row ∷ [])) assignments) row
    (AreSound-maps (λ (a : Assignment). value_of tables a.source (row ∷ [])) assignments (λ a. value-sound tables a.source (row ∷ []))))

updated_if-sound : (checks : List Condition) (tables : Tables) (table : Table) (assignments : List Assignment) (row : Row) (touched : Bool)
    → IsSound (updated_if checks tables table assignments row touched)
updated_if-sound checks tables table assignments row false = tt
updated_if-sound checks tables table assignments row true = then-sound (assigned checks tables table assignments row) (λ new. (true, new))
    (assigned-sound checks tables table assignments row)

updated_rows-sound : (checks : List Condition) (tables : Tables) (table : Table) (u : Update) → IsSound (updated_rows checks tables table u)
updated_rows-sound checks tables table u =
    together-sound (map (λ row. is_touched tables u.filter row >>= updated_if checks tables table u.assignments row) table.rows)
    (AreSound-maps (λ row. is_touched tables u.filter row >>= updated_if checks tables table u.assignments row) table.rows
    (λ row. next-sound (is_touched tables u.filter row) (updated_if checks tables table u.assignments row) (touched-sound tables u.filter row)
    (λ touched. updated_if-sound checks tables table u.assignments row touched)))

deleted_rows-sound : (tables : Tables) (table : Table) (d : Delete) → IsSound (deleted_rows tables table d)
deleted_rows-sound tables table d =
    together-sound (map (λ row. is_touched tables d.filter row >>= (λ touched. Ok (touched, row))) table.rows)
    (AreSound-maps (λ row. is_touched tables d.filter row >>= (λ touched. Ok (touched, row))) table.rows
    (λ row. then-sound (is_touched tables d.filter row) (λ touched. (touched, row)) (touched-sound tables d.filter row)))

-- ---- changes

with_rows-decided : (reading : CheckReading) (db : Database) (name : Name) (table : Table) (rows : List Row) (count : ℕ)
    → IsDecided (with_rows reading db name table rows count)
with_rows-decided reading db name table rows count = at (violated_in reading (insert db name (record table { rows = rows })))
  where
    at : (names : List Name) → IsDecided (unless_violated names (insert db name (record table { rows = rows })) count)
    at [] = tt
    at (violated ∷ names) = tt

raised-decided : {A : Type 0} (x : Evaluation A) (made : A → Changed) → IsSound x → ((a : A) → IsDecided (made a)) → IsDecided (unless_raised x made)
raised-decided (Ok x) made h k = k x
raised-decided (Err []) made h k = absurd h
raised-decided (Err (fault ∷ faults)) made h k = tt

on_table-decided : (db : Database) (found : Option Table) (change : Table → Changed) → ((table : Table) → IsDecided (change table))
    → IsDecided (on_table db found change)
on_table-decided db None change h = tt
on_table-decided db (Some table) change h = h table

pub changed-decided : (reading : CheckReading) (db : Database) (change : Change) → IsDecided (changed reading db change)
changed-decided reading db (does.CreateTable c) = tt
changed-decided reading db (does.DropTable name) = tt
changed-decided reading db (does.CreateIndex c) = on_table-decided db (get db c.table) (index_on db c)
    (λ table. raised-decided (unless (flat_map (λ row. key_faults row c.columns) table.rows) (record { name = Some c.name; columns = c.columns }))
    (λ (index : IndexDeclaration). Makes (insert db c.table (record table { indexes = table.indexes ++ index ∷ [] })) None)
    (unless-sound (flat_map (λ row. key_faults row c.columns) table.rows) (record { name = Some c.name; columns = c.columns })) (λ index. tt))
changed-decided reading db (does.DropIndex name) = tt
changed-decided reading db (does.Insert i) = on_table-decided db (get db i.table) (insert_into reading db i)
    (λ table. raised-decided (inserted_rows (checks_of reading i.table table) (rows_in db) table i.columns i.source)
    (λ rows. with_rows reading db i.table table (table.rows ++ rows) (length rows))
    (inserted_rows-sound (checks_of reading i.table table) (rows_in db) table i.columns i.source)
    (λ rows. with_rows-decided reading db i.table table (table.rows ++ rows) (length rows)))
changed-decided reading db (does.Update u) = on_table-decided db (get db u.table) (update_in reading db u)
    (λ table. raised-decided (updated_rows (checks_of reading u.table table) (rows_in db) table u)
    (λ rows. with_rows reading db u.table table (map (λ r. r.1) rows) (count_by (λ r. r.0) rows))
    (updated_rows-sound (checks_of reading u.table table) (rows_in db) table u)
    (λ rows. with_rows-decided reading db u.table table (map (λ r. r.1) rows) (count_by (λ r. r.0) rows)))
changed-decided reading db (does.Delete d) = on_table-decided db (get db d.table) (delete_from reading db d)
    (λ table. raised-decided (deleted_rows (rows_in db) table d)
    (λ rows. with_rows reading db d.table table (map (λ r. r.1) (filter (λ r. not r.0) rows)) (count_by (λ r. r.0) rows))
    (deleted_rows-sound (rows_in db) table d)
    (λ rows. with_rows-decided reading db d.table table (map (λ r. r.1) (filter (λ r. not r.0) rows)) (count_by (λ r. r.0) rows)))
