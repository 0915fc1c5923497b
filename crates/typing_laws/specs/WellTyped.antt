-- Typed trees whose columns are there and whose operands fit: rules, each of which is read from its
-- premises to what they make well typed (ISO/IEC 9075:1992, 6.4, 6.5, 6.11 to 6.13, 7.5 to 7.10,
-- 8.2 to 8.8). Types are those of values: an integer or a text, whatever its length.
use Rattle.std.specs.Prelude.{◌≡◌, ℕ, Bool, List, [], ◌∷◌, ◌++◌, map, length, slice_get, Contains, Option, Some, None}
use Rattle.sqlval.specs.declared.comparison.CompOp.{CompOp}
use Rattle.sqlval.specs.declared.schema.Column.{Column}
use Rattle.sqlval.specs.declared.truth.Truth.{Truth}
use Rattle.sqlval.specs.declared.value.Value.{Value}
use Rattle.sqlval.specs.declared.value.Value.TheVariants.{Null}
use Rattle.sqlval.specs.declared.value.ValueType.{ValueType}
use Rattle.sqlval.specs.declared.value.ValueType.TheVariants.{Integer, Text}
use Rattle.sqlval.specs.Value.{type_of}
use Rattle.typing.specs.declared.typed.Arithmetic.{Arithmetic}
use Rattle.typing.specs.declared.typed.Condition.{Condition}
use Rattle.typing.specs.declared.typed.Condition.TheVariants as condition
use Rattle.typing.specs.declared.typed.Expression.{Expression}
use Rattle.typing.specs.declared.typed.Expression.TheVariants as expression
use Rattle.typing.specs.declared.typed.Grouping.{Grouping, out-Grouping}
use Rattle.typing.specs.declared.typed.Item.{Item, out-Item}
use Rattle.typing.specs.declared.typed.Query.{Query}
use Rattle.typing.specs.declared.typed.Query.TheVariants as query
use Rattle.typing.specs.declared.typed.Select.{Select, out-Select}
use Rattle.typing.specs.declared.typed.SetFunction.{SetFunction}
use Rattle.typing.specs.declared.typed.SetFunction.TheVariants.{CountRows, Over}
use Rattle.typing.specs.declared.typed.SetFunctionType.TheVariants.{Count, Sum, Avg, Min, Max}
use Rattle.typing.specs.declared.typed.SetOperation.{SetOperation}
use Rattle.typing.specs.declared.typed.Source.{Source}
use Rattle.typing.specs.declared.typed.Source.TheVariants as source
use Rattle.typing.specs.Known.{Known}
use Rattle.typing.specs.declared.known.KnownTable.{KnownTable}
use Rattle.typing.specs.Table.{type_in}

-- the types of the rows that a place sees: that of its own SELECT first, then those of the SELECTs
-- outwards
abbrev pub Rows : Type 0
Rows = List (List ValueType)

-- the types of a table's columns
abbrev pub column_types : List Column → List ValueType
column_types columns = map (λ column. type_in column.column_type) columns

-- where the columns of GROUP BY stand; without GROUP BY there are none
abbrev pub key_places : Option (List ℕ) → List ℕ
key_places None = []
key_places (Some places) = places

-- the expressions of a select list
abbrev pub item_values : List Item → List Expression
item_values items = map (λ item. (out-Item item).expression) items

mutual
  -- An expression gives values of this type.
  pub data HasType (known : Known) : Rows → Expression → ValueType → Type 0 where
    -- NULL stands for any
    null : {rows : Rows} {type : ValueType} → HasType known rows (expression.Constant Null) type
    constant : {rows : Rows} {type : ValueType} (value : Value) → type_of value ≡ Some type
        → HasType known rows (expression.Constant value) type
    column : {rows : Rows} {type : ValueType} (depth place : ℕ) (row : List ValueType) → slice_get rows depth ≡ Some row
        → slice_get row place ≡ Some type
        → HasType known rows (expression.Column depth place) type
    calculation : {rows : Rows} {first : Expression} (others : List (Arithmetic × Expression))
        → HasType known rows first Integer
        → ((other : Arithmetic × Expression) → Contains others other → HasType known rows other.1 Integer)
        → HasType known rows (expression.Calculation first others) Integer
    concatenation : {rows : Rows} {first : Expression} (others : List Expression) → HasType known rows first Text
        → ((other : Expression) → Contains others other → HasType known rows other Text)
        → HasType known rows (expression.Concatenation first others) Text
    negation : {rows : Rows} {operand : Expression} → HasType known rows operand Integer
        → HasType known rows (expression.Negation operand) Integer
    -- a query of one column
    scalar : {rows : Rows} {q : Query} {type : ValueType} → HasResult known rows q (type ∷ [])
        → HasType known rows (expression.Scalar q) type

  -- Expressions give values of these types, one each.
  pub data HaveTypes (known : Known) : Rows → List Expression → List ValueType → Type 0 where
    none : {rows : Rows} → HaveTypes known rows [] []
    one : {rows : Rows} {x : Expression} {type : ValueType} {others : List Expression} {types : List ValueType}
        → HasType known rows x type
        → HaveTypes known rows others types → HaveTypes known rows (x ∷ others) (type ∷ types)

  -- A condition can be asked.
  pub data IsWellTyped (known : Known) : Rows → Condition → Type 0 where
    or : {rows : Rows} (operands : List Condition) → ((c : Condition) → Contains operands c → IsWellTyped known rows c)
        → IsWellTyped known rows (condition.Or operands)
    and : {rows : Rows} (operands : List Condition) → ((c : Condition) → Contains operands c → IsWellTyped known rows c)
        → IsWellTyped known rows (condition.And operands)
    not : {rows : Rows} {c : Condition} → IsWellTyped known rows c → IsWellTyped known rows (condition.Not c)
    is_truth : {rows : Rows} {c : Condition} (truth : Truth) → IsWellTyped known rows c
        → IsWellTyped known rows (condition.IsTruth c truth)
    compare : {rows : Rows} {x y : Expression} {type : ValueType} (operator : CompOp) → HasType known rows x type
        → HasType known rows y type
        → IsWellTyped known rows (condition.Compare operator x y)
    between : {rows : Rows} {x low high : Expression} {type : ValueType} → HasType known rows x type → HasType known rows low type → HasType known rows high type
        → IsWellTyped known rows (condition.Between x low high)
    in_list : {rows : Rows} {x : Expression} {type : ValueType} (values : List Value) → HasType known rows x type
        → ((value : Value) → Contains values value → type_of value ≡ Some type)
        → IsWellTyped known rows (condition.InList x values)
    in_query : {rows : Rows} {x : Expression} {q : Query} {type : ValueType} → HasType known rows x type → HasResult known rows q (type ∷ [])
        → IsWellTyped known rows (condition.InQuery x q)
    like : {rows : Rows} {x pattern : Expression} → HasType known rows x Text → HasType known rows pattern Text
        → IsWellTyped known rows (condition.Like x pattern)
    is_null : {rows : Rows} {x : Expression} {type : ValueType} → HasType known rows x type
        → IsWellTyped known rows (condition.IsNull x)
    exists : {rows : Rows} {q : Query} {types : List ValueType} → HasResult known rows q types
        → IsWellTyped known rows (condition.Exists q)

  -- What gives the rows of a FROM gives rows of these types. The rows seen are those outside the
  -- SELECT; ON sees the left row and then the right one as one row.
  pub data HasColumns (known : Known) : Rows → Source → List ValueType → Type 0 where
    table : {rows : Rows} (name : List ℕ) (stored : KnownTable) → known.table name ≡ Some stored
        → HasColumns known rows (source.Table name) (column_types stored.columns)
    derived : {rows : Rows} {q : Query} {types : List ValueType} → HasResult known rows q types → HasColumns known rows (source.Derived q) types
    product : {rows : Rows} {left right : Source} {ls rs : List ValueType} → HasColumns known rows left ls
        → HasColumns known rows right rs
        → HasColumns known rows (source.Product left right) (ls ++ rs)
    inner : {rows : Rows} {on : Condition} {left right : Source} {ls rs : List ValueType}
        → HasColumns known rows left ls → HasColumns known rows right rs
        → IsWellTyped known ((ls ++ rs) ∷ rows) on → HasColumns known rows (source.Inner on left right) (ls ++ rs)
    left : {rows : Rows} {on : Condition} {left right : Source} {ls rs : List ValueType} → HasColumns known rows left ls
        → HasColumns known rows right rs
        → IsWellTyped known ((ls ++ rs) ∷ rows) on → (width : ℕ) → width ≡ length rs → HasColumns known rows (source.Left on left right width) (ls ++ rs)

  -- A set function over rows of FROM has values of this type.
  pub data FunctionHasType (known : Known) : Rows → SetFunction → ValueType → Type 0 where
    count_rows : {rows : Rows} → FunctionHasType known rows CountRows Integer
    count : {rows : Rows} {x : Expression} {type : ValueType} (is_distinct : Bool) → HasType known rows x type
        → FunctionHasType known rows (Over Count is_distinct x) Integer
    sum : {rows : Rows} {x : Expression} (is_distinct : Bool) → HasType known rows x Integer
        → FunctionHasType known rows (Over Sum is_distinct x) Integer
    average : {rows : Rows} {x : Expression} (is_distinct : Bool) → HasType known rows x Integer
        → FunctionHasType known rows (Over Avg is_distinct x) Integer
    minimum : {rows : Rows} {x : Expression} {type : ValueType} (is_distinct : Bool) → HasType known rows x type
        → FunctionHasType known rows (Over Min is_distinct x) type
    maximum : {rows : Rows} {x : Expression} {type : ValueType} (is_distinct : Bool) → HasType known rows x type
        → FunctionHasType known rows (Over Max is_distinct x) type

  -- Set functions have values of these types, one each.
  pub data FunctionsHaveTypes (known : Known) : Rows → List SetFunction → List ValueType → Type 0 where
    no_functions : {rows : Rows} → FunctionsHaveTypes known rows [] []
    one_function : {rows : Rows} {f : SetFunction} {type : ValueType} {others : List SetFunction} {types : List ValueType}
        → FunctionHasType known rows f type
        → FunctionsHaveTypes known rows others types → FunctionsHaveTypes known rows (f ∷ others) (type ∷ types)

  -- The select list of a SELECT over rows of these types sees a row of those: the same one without
  -- groups, else a group's key and then the values of its set functions, which HAVING sees too.
  pub data IsSeen (known : Known) : Rows → List ValueType → Option Grouping → List ValueType → Type 0 where
    as_it_is : {rows : Rows} {from : List ValueType} → IsSeen known rows from None from
    grouped : {rows : Rows} {from : List ValueType} (g : Grouping) (key values : List ValueType)
        → map (slice_get from) (key_places (out-Grouping g).columns) ≡ map Some key
        → FunctionsHaveTypes known (from ∷ rows) (out-Grouping g).functions values
        → ((c : Condition) → (out-Grouping g).having ≡ Some c → IsWellTyped known ((key ++ values) ∷ rows) c)
        → IsSeen known rows from (Some g) (key ++ values)

  -- A query has rows of these types.
  pub data HasResult (known : Known) : Rows → Query → List ValueType → Type 0 where
    select : {rows : Rows} {types : List ValueType} (s : Select) (from seen : List ValueType)
        → HasColumns known rows (out-Select s).from from
        → ((c : Condition) → (out-Select s).filter ≡ Some c → IsWellTyped known (from ∷ rows) c)
        → IsSeen known rows from (out-Select s).grouping seen
        → HaveTypes known (seen ∷ rows) (item_values (out-Select s).items) types
        → HasResult known rows (query.Select s) types
    -- both sides of a set operator have the same types
    combined : {rows : Rows} {first : Query} {types : List ValueType} (others : List (SetOperation × Query))
        → HasResult known rows first types
        → ((other : SetOperation × Query) → Contains others other → HasResult known rows other.1 types) → HasResult known rows (query.Combined first others) types
