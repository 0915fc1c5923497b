-- The rows that INSERT and UPDATE store (ISO/IEC 9075:1992, 9.2, 13.8, 13.10).
use Rattle.std.specs.Prelude.{ℕ, ◌+◌, ◌==◌, nat_le, if◌then◌else◌, List, [], ◌∷◌, ◌++◌, map, flat_map, position, slice_get, option_and_then, Option, Some, None, Ok}
use Rattle.std.specs.List.{enumerate_from}
use Rattle.sqlval.specs.declared.value.Value.{Value}
use Rattle.sqlval.specs.declared.schema.Column.{Column}
use Rattle.sqlval.specs.CodedLength.{row_length, key_length}
use Rattle.sqlval.specs.Matching.{key_of}
use Rattle.sqlval.specs.Storing.{stored}
use Rattle.sqlval.specs.Value.{Row}
use Rattle.typing.specs.declared.typed.Condition.{Condition}
use Rattle.denote.specs.declared.fault.Fault.{Fault}
use Rattle.denote.specs.declared.fault.Fault.TheVariants.{Record, Key}
use Rattle.denote.specs.Evaluation.{Evaluation, ◌>>=◌, given, faults_in, unless, together}
use Rattle.denote.specs.Expression.{cell}
use Rattle.denote.specs.Database.{Table, check_at}

-- what is given for the column at a place, if anything is
abbrev pub given_for : {A : Type 0} → ℕ → List ℕ → List A → Option A
given_for place columns items = option_and_then (slice_get items) (position (λ column. column == place) columns)

-- the given value as the column holds it, else the old one
abbrev pub value_for : Option (Evaluation Value) → Column → Value → Evaluation Value
value_for None column old = Ok old
value_for (Some value) column old = value >>= (λ x. given (stored x column.column_type))

-- A row with values given for the columns at these places, and the old ones at the others. Its
-- faults are those of all the values and of storing them.
abbrev pub row_with : List Column → List ℕ → List (Evaluation Value) → Row → Evaluation Row
row_with columns places values old = together (map (λ c. value_for (given_for c.0 places values) c.1 (cell old c.0)) (enumerate_from 0 columns))

-- a row's code has at most 1,000 bytes: our own choice
abbrev pub record_faults : Row → List Fault
record_faults row = if nat_le (row_length row) 1000 then [] else Record ∷ []

-- an index key's code has at most 600 bytes, with the 8 of its row number: our own choice
abbrev pub key_faults : Row → List ℕ → List Fault
key_faults row columns = if nat_le (key_length (key_of columns row) + 8) 600 then [] else Key ∷ []

-- the faults of a row that a table is to hold: of the CHECKs that cannot be evaluated, and of its
-- lengths
abbrev pub row_faults : List Condition → Table → Row → List Fault
row_faults checks table row =
    flat_map (λ check. faults_in (check_at check row)) checks ++ (record_faults row ++ flat_map (λ index. key_faults row index.columns) table.indexes)

-- a row that a table is to hold, if nothing faults in it; where its values fault, nothing else is
-- looked at: our own choice
abbrev pub admitted : List Condition → Table → Evaluation Row → Evaluation Row
admitted checks table row = row >>= (λ r. unless (row_faults checks table r) r)

-- the row that an INSERT stores of these values; unnamed columns get null
abbrev pub inserted_row : List Condition → Table → List ℕ → List (Evaluation Value) → Evaluation Row
inserted_row checks table places values = admitted checks table (row_with table.columns places values [])
