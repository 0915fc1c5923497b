-- Set functions over values that stand in rows: what a group's row has (ISO/IEC 9075:1992, 6.5,
-- 7.7).
use Rattle.std.specs.Prelude.{◌≡◌, ℕ, ◌+◌, ◌^◌, pos, nat_lt, if◌then◌else◌, List, [], ◌∷◌, ◌++◌, map, length, slice_index_or, Option, Result, Ok, IfOk, IfErr}
use Rattle.std.specs.Option.{unwrap_or}
use Rattle.sqlval.specs.declared.value.Value.{Value}
use Rattle.sqlval.specs.declared.value.Value.TheVariants.{Null}
use Rattle.sqlval.specs.Arithmetic.{in_range}
use Rattle.sqlval.specs.Matching.{key_of}
use Rattle.sqlval.specs.Value.{Row}
use Rattle.algebra.specs.Listing.{listed_rows}
use Rattle.algebra.specs.Meaning.{MeantFunction, Rows, Argument}
use Rattle.denote.specs.declared.fault.Fault.{Fault as Raised}
use Rattle.denote.specs.declared.fault.Fault.TheVariants.{OutOfRange}
use Rattle.denote.specs.declared.fault.Stop.{Stop}
use Rattle.denote.specs.declared.fault.Stop.TheVariants.{Memory, Fault}
use Rattle.denote.specs.Evaluation.{Env, Evaluation, ◌>>=◌, given, adding, together, faults_in}
use Rattle.denote.specs.Expression.{cell}
use Rattle.denote.specs.Group.{taken, aggregated, keys_of}
use Rattle.denote.specs.Outcome.{Outcome}
use Rattle.kernels.specs.declared.aggregate.Aggregate.{Aggregate}
use Rattle.kernels.specs.declared.aggregate.Aggregate.TheVariants.{CountRows, Over}
use Rattle.kernels.specs.declared.groups.Group.{Group}
use Rattle.kernels.specs.Groups.{group_of}

-- ---- arguments

-- a set function without its argument
abbrev pub kind_of : MeantFunction → Aggregate
kind_of Rows = CountRows
kind_of (Argument function is_distinct argument) = Over function is_distinct

-- the value of a set function's argument at a row; COUNT(*) has none
abbrev pub argument_value : Env → MeantFunction → Evaluation Value
argument_value env Rows = Ok Null
argument_value env (Argument function is_distinct argument) = argument env

-- the values of all functions' arguments at a row
abbrev pub argument_values : List MeantFunction → Env → Row → Evaluation Row
argument_values functions env row = together (map (argument_value (row ∷ env)) functions)

-- ---- values

-- the argument of the function with this number, at the row of this place
abbrev pub value_at : List Row → ℕ → ℕ → Value
value_at arguments number place = cell (slice_index_or arguments place []) number

abbrev pub values_at : List Row → ℕ → List ℕ → List Value
values_at arguments number places = map (value_at arguments number) places

-- a group of more rows than the greatest integer
abbrev pub beyond_places : List ℕ → List Raised
beyond_places places = if nat_lt (length places) (2 ^ 63) then [] else OutOfRange ∷ []

-- the value of a set function over the rows of a group
abbrev pub value_over : List Row → List ℕ → Aggregate → ℕ → Evaluation Value
value_over arguments places CountRows number = given (in_range (pos (length places)))
value_over arguments places (Over function is_distinct) number =
    adding (beyond_places places) (given (aggregated function (taken is_distinct (values_at arguments number places))))

-- those of all functions, numbered from one on
abbrev pub values_over : List Row → List ℕ → List Aggregate → ℕ → List (Evaluation Value)
values_over arguments places [] number = []
values_over arguments places (aggregate ∷ aggregates) number = value_over arguments places aggregate number ∷ values_over arguments places aggregates (number + 1)

-- a group's row: its key and then the values
abbrev pub row_of : List Row → List Aggregate → Group → Evaluation Row
row_of arguments aggregates group = together (values_over arguments group.places aggregates 0) >>= (λ values. Ok (group.key ++ values))

-- the rows of groups, up to the first that has a fault
abbrev pub rows_of : List Row → List Aggregate → List Group → Evaluation (List Row)
rows_of arguments aggregates [] = Ok []
rows_of arguments aggregates (group ∷ groups) = row_of arguments aggregates group >>= (λ row. rows_of arguments aggregates groups >>= (λ rows. Ok (row ∷ rows)))

-- the keys of all rows; without GROUP BY a key has no value
abbrev pub all_keys : Option (List ℕ) → List Row → List Row
all_keys columns rows = map (key_of (unwrap_or columns [])) rows

-- the groups of rows; without GROUP BY there is one, even over no rows
abbrev pub groups_in : Option (List ℕ) → List Row → List Group
groups_in columns rows = map (group_of (all_keys columns rows)) (keys_of columns rows)

-- ---- replies

-- the first of the faults; want of memory may stand in place of anything
abbrev pub IsFirstFault : List Raised → Stop → Type 0
IsFirstFault faults Memory = Unit {0}
IsFirstFault [] (Fault fault) = ⊥
IsFirstFault (first ∷ faults) (Fault fault) = first ≡ fault

-- the value, or the first fault
pub record GivesFirst {A : Type 0} (reply : Result A Stop) (meant : Evaluation A) : Type 0 where
  pub ok : IfOk reply (λ x. meant ≡ Ok x)
  pub err : IfErr reply (IsFirstFault (faults_in meant))

-- a list that this stop ends before its first row
abbrev pub IsEndedBy : Outcome → Stop → Type 0
IsEndedBy meant Memory = Unit {0}
IsEndedBy meant (Fault fault) = meant ≡ record { rows = []; faults = fault ∷ [] }

-- all rows of a list, or the fault before them; want of memory may stand in place of either
pub record GivesRows (reply : Result (List Row) Stop) (meant : Outcome) : Type 0 where
  pub ok : IfOk reply (λ rows. meant ≡ listed_rows rows)
  pub err : IfErr reply (IsEndedBy meant)
