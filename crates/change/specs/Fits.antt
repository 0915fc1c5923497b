-- Whether rows that are given fit a table's columns.
use Rattle.std.specs.Prelude.{Bool, true, false, ◌==◌, List, [], ◌∷◌, length, Option, Some, None, if◌then◌else◌}
use Rattle.refusals.specs.declared.reason.Reason.{Reason}
use Rattle.refusals.specs.declared.reason.Reason.TheVariants.{Columns, DataType}
use Rattle.sqlval.specs.declared.schema.Column.{Column}
use Rattle.sqlval.specs.declared.storing.ColumnType.{ColumnType}
use Rattle.sqlval.specs.declared.storing.ColumnType.TheVariants as stored
use Rattle.sqlval.specs.declared.value.Value.{Value}
use Rattle.sqlval.specs.declared.value.Value.TheVariants as value
use Rattle.sqlval.specs.Value.{Row}

-- a value of the column's type, or null
abbrev pub fits : Value → ColumnType → Bool
fits value.Null column = true
fits (value.Int number) stored.Integer = true
fits (value.Int number) (stored.Varchar n) = false
fits (value.Text codes) stored.Integer = false
fits (value.Text codes) (stored.Varchar n) = true

-- each column has a value, which fits it
abbrev pub values_fit : List Column → Row → Bool
values_fit [] row = true
values_fit (column ∷ columns) [] = false
values_fit (column ∷ columns) (value ∷ row) = if fits value column.column_type then values_fit columns row else false

-- what is wrong with a row
abbrev pub row_fault : List Column → Row → Option Reason
row_fault columns row =
    if length columns == length row then (if values_fit columns row then None else Some DataType) else Some Columns

abbrev pub earlier : Option Reason → Option Reason → Option Reason
earlier None other = other
earlier (Some reason) other = Some reason

-- and with the first row with which anything is
abbrev pub first_fault : List Column → List Row → Option Reason
first_fault columns [] = None
first_fault columns (row ∷ rows) = earlier (row_fault columns row) (first_fault columns rows)
