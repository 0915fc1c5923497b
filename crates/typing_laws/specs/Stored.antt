-- What INSERT and UPDATE give for the columns of a table, and what the columns keep of it.
use Rattle.std.specs.Prelude.{◌≡◌, List, [], map, Contains, Ok, IfOk}
use Rattle.sqlval.specs.declared.schema.Column.{Column}
use Rattle.sqlval.specs.declared.value.Value.{Value}
use Rattle.sqlval.specs.Storing.{stored}
use Rattle.sqlval.specs.Value.{Row, is_null}
use Rattle.typing.specs.declared.statement.InsertSource.{InsertSource}
use Rattle.typing.specs.declared.statement.InsertSource.TheVariants as from
use Rattle.typing.specs.declared.typed.Expression.{Expression}
use Rattle.typing.specs.Table.{type_in}
use Rattle.denote.specs.Evaluation.{Evaluation}
use Rattle.denote.specs.Meaning.{Tables, query_outcome, value_of}
use Rattle.typing_laws.specs.Types.{IsOfType}

-- the value has the column's type, and where the column keeps something of it, that is null of null
-- alone
pub record IsKeptBy (column : Column) (value : Value) : Type 0 where
  pub typed : IsOfType (type_in column.column_type) value
  pub kept : IfOk (stored value column.column_type) (λ held. is_null held ≡ is_null value)

-- the values that an INSERT gives for one row: those of a row of VALUES, or a row of its query
abbrev pub AreGiven : Tables → InsertSource → List (Evaluation Value) → Type 0
AreGiven tables (from.Values rows) given = (sources : List Expression) × Contains rows sources
    × (given ≡ map (λ source. value_of tables source []) sources)
AreGiven tables (from.Query query) given = (row : Row) × Contains (query_outcome tables query []).rows row
    × (given ≡ map Ok row)
