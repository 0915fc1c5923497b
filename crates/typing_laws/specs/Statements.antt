-- Typed statements that are well typed.
use Rattle.std.specs.Prelude.{◌≡◌, ◌<◌, List, [], ◌∷◌, map, length, slice_get, Contains, Option, Some}
use Rattle.sqlval.specs.declared.value.ValueType.{ValueType}
use Rattle.typing.specs.declared.statement.Assignment.{Assignment}
use Rattle.typing.specs.declared.statement.Change.{Change}
use Rattle.typing.specs.declared.statement.Change.TheVariants as change
use Rattle.typing.specs.declared.statement.Delete.{Delete}
use Rattle.typing.specs.declared.statement.Insert.{Insert}
use Rattle.typing.specs.declared.statement.InsertSource.{InsertSource}
use Rattle.typing.specs.declared.statement.InsertSource.TheVariants as from
use Rattle.typing.specs.declared.statement.Typed.{Typed}
use Rattle.typing.specs.declared.statement.Typed.TheVariants as typed
use Rattle.typing.specs.declared.statement.Update.{Update}
use Rattle.typing.specs.declared.typed.Condition.{Condition}
use Rattle.typing.specs.declared.typed.Expression.{Expression}
use Rattle.typing.specs.declared.typed.OrderKey.{OrderKey}
use Rattle.typing.specs.declared.typed.OrderedQuery.{OrderedQuery}
use Rattle.typing.specs.Known.{Known}
use Rattle.typing.specs.declared.known.KnownTable.{KnownTable}
use Rattle.typing_laws.specs.WellTyped.{HasResult, HasType, HaveTypes, IsWellTyped, Rows, column_types}

-- a query that stands in no other; the keys of its ORDER BY are columns of its result
pub record IsOrderedWell (known : Known) (q : OrderedQuery) : Type 0 where
  pub types : List ValueType
  pub result : HasResult known [] q.query types
  pub keys : (key : OrderKey) → Contains q.keys key → key.place < length types

-- a condition that may be left out
abbrev pub IsFilter : Known → Rows → Option Condition → Type 0
IsFilter known rows filter = (c : Condition) → filter ≡ Some c → IsWellTyped known rows c

-- what is stored in columns of these types
abbrev pub IsStoredAs : Known → List ValueType → InsertSource → Type 0
IsStoredAs known types (from.Values rows) = (row : List Expression) → Contains rows row → HaveTypes known [] row types
IsStoredAs known types (from.Query q) = HasResult known [] q types

-- the columns are the table's, and what is stored in them has their types
pub record IsInsertWell (known : Known) (insert : Insert) : Type 0 where
  pub table : KnownTable
  pub is_there : known.table insert.table ≡ Some table
  pub types : List ValueType
  pub columns : map (slice_get (column_types table.columns)) insert.columns ≡ map Some types
  pub stored : IsStoredAs known types insert.source

-- a column of a row of the table is set to a value of its type; the source sees the row
pub record IsAssignmentWell (known : Known) (row : List ValueType) (assignment : Assignment) : Type 0 where
  pub column_type : ValueType
  pub column : slice_get row assignment.column ≡ Some column_type
  pub source : HasType known (row ∷ []) assignment.source column_type

-- the columns that are set are the table's; sources and filter see a row of it
pub record IsUpdateWell (known : Known) (update : Update) : Type 0 where
  pub table : KnownTable
  pub is_there : known.table update.table ≡ Some table
  pub assignments : (assignment : Assignment) → Contains update.assignments assignment
      → IsAssignmentWell known (column_types table.columns) assignment
  pub filter : IsFilter known (column_types table.columns ∷ []) update.filter

-- the filter sees a row of the table
pub record IsDeleteWell (known : Known) (delete : Delete) : Type 0 where
  pub table : KnownTable
  pub is_there : known.table delete.table ≡ Some table
  pub filter : IsFilter known (column_types table.columns ∷ []) delete.filter

-- a change of rows; changes of tables and indexes hold no typed tree
abbrev pub IsChangeWell : Known → Change → Type 0
IsChangeWell known (change.Insert insert) = IsInsertWell known insert
IsChangeWell known (change.Update update) = IsUpdateWell known update
IsChangeWell known (change.Delete delete) = IsDeleteWell known delete
IsChangeWell known _ = Unit {0}

-- queries, and changes of rows; other statements hold no typed tree
abbrev pub IsStatementWell : Known → Typed → Type 0
IsStatementWell known (typed.Query q) = IsOrderedWell known q
IsStatementWell known (typed.Explain q) = IsOrderedWell known q
IsStatementWell known (typed.Change c) = IsChangeWell known c
IsStatementWell known _ = Unit {0}
