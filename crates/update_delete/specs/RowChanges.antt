-- What becomes of the rows of a table by an UPDATE or a DELETE (ISO/IEC 9075:1992, 13.7, 13.10).
use Rattle.std.specs.Prelude.{◌≡◌, ℕ, Bool, true, false, not, List, [], ◌∷◌, ◌++◌, map, filter, flat_map, count_by, Option, Some, None, Result, Ok, IfOk, IfErr}
use Rattle.std.specs.List.{filter_map}
use Rattle.sqlval.specs.Value.{Row}
use Rattle.denote.specs.declared.fault.Stop.{Stop}
use Rattle.denote.specs.Database.{IndexDeclaration, Table}
use Rattle.denote.specs.Evaluation.{Evaluation, faults_in}
use Rattle.denote.specs.Stop.{IsFaultOf}
use Rattle.denote.specs.StoredRow.{key_faults, record_faults}
use Rattle.operator_laws.specs.Same.{Every}
use Rattle.update_delete.specs.declared.change.RowChange.{RowChange}
use Rattle.update_delete.specs.declared.change.RowChange.TheVariants.{Stays, Goes, Becomes}

-- what is left in place of a row
abbrev pub left_of : Row → RowChange → List Row
left_of row Stays = row ∷ []
left_of row Goes = []
left_of row (Becomes new) = new ∷ []

-- and of rows, the n-th of which is changed by the n-th change
abbrev pub rows_left : List Row → List RowChange → List Row
rows_left [] changes = []
rows_left (row ∷ rows) [] = row ∷ rows
rows_left (row ∷ rows) (change ∷ changes) = left_of row change ++ rows_left rows changes

-- what is no longer there of a row, and of rows, the n-th of which is changed by the n-th change
abbrev pub gone_of : Row → RowChange → List Row
gone_of row Stays = []
gone_of row Goes = row ∷ []
gone_of row (Becomes new) = row ∷ []

abbrev pub rows_gone : List Row → List RowChange → List Row
rows_gone [] changes = []
rows_gone (row ∷ rows) [] = []
rows_gone (row ∷ rows) (change ∷ changes) = gone_of row change ++ rows_gone rows changes

-- changes of the rows that pass a test, put among those of all rows: the others stay
abbrev pub spread_at : Bool → (List RowChange → List RowChange) → List RowChange → List RowChange
spread_at false others changes = Stays ∷ others changes
spread_at true others [] = Stays ∷ others []
spread_at true others (change ∷ changes) = change ∷ others changes

abbrev pub spread : (Row → Bool) → List Row → List RowChange → List RowChange
spread test [] changes = changes
spread test (row ∷ rows) changes = spread_at (test row) (λ (others : List RowChange). spread test rows others) changes

-- the row that comes in place of another, and all that come
abbrev pub new_of : RowChange → Option Row
new_of Stays = None
new_of Goes = None
new_of (Becomes row) = Some row

abbrev pub rows_new : List RowChange → List Row
rows_new = filter_map new_of

abbrev pub is_change : RowChange → Bool
is_change Stays = false
is_change Goes = true
is_change (Becomes row) = true

-- what a row becomes, and its keys in these indexes, are short enough: our own limits
abbrev pub IsShort : List IndexDeclaration → RowChange → Type 0
IsShort indexes Stays = Unit {0}
IsShort indexes Goes = Unit {0}
IsShort indexes (Becomes row) = (record_faults row ≡ [])
    × (flat_map (λ index. key_faults row index.columns) indexes ≡ [])

-- changes of a table's rows that leave these rows and touch so many
pub record AreChanges (table : Table) (changes : List RowChange) (left : List Row) (count : ℕ) : Type 0 where
  pub left_so : rows_left table.rows changes ≡ left
  pub as_many : count_by is_change changes ≡ count
  pub short : Every (IsShort table.indexes) changes

-- those of an UPDATE, of whose rows each is given as it is after it, with whether it was touched
abbrev pub AreUpdates : Table → List RowChange → List (Bool × Row) → Type 0
AreUpdates table changes found = AreChanges table changes (map (λ r. r.1) found) (count_by (λ r. r.0) found)

-- those of a DELETE, of whose rows each is given with whether it is touched
abbrev pub AreDeletions : Table → List RowChange → List (Bool × Row) → Type 0
AreDeletions table changes found = AreChanges table changes (map (λ r. r.1) (filter (λ r. not r.0) found)) (count_by (λ r. r.0) found)

-- changes that are meant, or one of the faults
pub record GivesChanges (are : List RowChange → List (Bool × Row) → Type 0) (reply : Result (List RowChange) Stop) (meant : Evaluation (List (Bool × Row))) : Type 0 where
  pub ok : IfOk reply (λ changes. (found : List (Bool × Row)) × (meant ≡ Ok found) × are changes found)
  pub err : IfErr reply (IsFaultOf (faults_in meant))
