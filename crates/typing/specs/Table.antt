-- Tables of a schema, and lists of names (ISO/IEC 9075:1992, 6.3, 11.3).
use Rattle.std.specs.Prelude.{ℕ, Bool, true, not, ◌&&◌, nat_le, List, [], ◌∷◌, map, Option, Some, None, Ok, if◌then◌else◌}
use Rattle.std.specs.List.{list_any}
use Rattle.sqlval.specs.declared.schema.Column.{Column}
use Rattle.sqlval.specs.declared.storing.ColumnType.{ColumnType}
use Rattle.sqlval.specs.declared.storing.ColumnType.TheVariants as stored
use Rattle.sqlval.specs.declared.value.ValueType.{ValueType}
use Rattle.sqlval.specs.declared.value.ValueType.TheVariants as type
use Rattle.sqlval.specs.Schema.{same_name}
use Rattle.refusals.specs.declared.limit.Limit.{Limit}
use Rattle.refusals.specs.declared.reason.Reason.TheVariants.{Name, Duplicate}
use Rattle.typing.specs.declared.scope.Offer.{Offer}
use Rattle.typing.specs.declared.scope.Frame.{Frame}
use Rattle.typing.specs.Known.{Known, KnownTable, place_in}
use Rattle.typing.specs.Finding.{Finding, each, invalid, exceeded}

-- no more of these than a limit allows
abbrev pub at_most : ℕ → Limit → ℕ → Finding (Unit {0})
at_most most passed count = if nat_le count most then Ok tt else exceeded passed

-- no name stands twice
abbrev pub are_distinct : List (List ℕ) → Bool
are_distinct [] = true
are_distinct (name ∷ names) = not (list_any (λ other. same_name other name) names) && are_distinct names

abbrev pub distinct_found : List (List ℕ) → Finding (Unit {0})
distinct_found names = if are_distinct names then Ok tt else invalid Duplicate

-- what a name means must be there
abbrev pub as_found : {A : Type 0} → Option A → Finding A
as_found (Some x) = Ok x
as_found None = invalid Name

-- what gets a name must be new
abbrev pub is_new : Bool → Finding (Unit {0})
is_new is_there = if is_there then invalid Duplicate else Ok tt

-- the stored table of a name
abbrev pub table_found : Known → List ℕ → Finding KnownTable
table_found known name = as_found (known.table name)

-- the places of the columns named
abbrev pub places_named : List Column → List (List ℕ) → Finding (List ℕ)
places_named columns names = each (map (λ name. as_found (place_in columns name)) names)

abbrev pub type_in : ColumnType → ValueType
type_in stored.Integer = type.Integer
type_in (stored.Varchar n) = type.Text

-- what a table offers under a name
abbrev pub offer_of : List ℕ → Column → Offer
offer_of shown column = record { table = shown; name = Some column.name; value_type = type_in column.column_type }

-- one table alone
abbrev pub frame_of : List ℕ → List Column → Frame
frame_of shown columns = record { tables = shown ∷ []; columns = map (offer_of shown) columns; key = None }
