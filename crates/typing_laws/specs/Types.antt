-- Values and rows of given types. Types are those of values, an integer or a text, whatever its
-- length.
use Rattle.std.specs.Prelude.{◌≡◌, ◌⊎◌, ℕ, List, [], ◌∷◌, All, Some}
use Rattle.sqlval.specs.declared.value.Value.{Value}
use Rattle.sqlval.specs.declared.value.Value.TheVariants.{Null}
use Rattle.sqlval.specs.declared.value.ValueType.{ValueType}
use Rattle.sqlval.specs.Value.{Row, type_of}
use Rattle.typing.specs.Known.{Known}
use Rattle.typing.specs.declared.known.KnownTable.{KnownTable}
use Rattle.denote.specs.Evaluation.{Env}
use Rattle.denote.specs.Meaning.{Tables}
use Rattle.typing_laws.specs.WellTyped.{Rows, column_types}

-- a value of this type, or null, which may stand for any
abbrev pub IsOfType : ValueType → Value → Type 0
IsOfType type value = (value ≡ Null) ⊎ (type_of value ≡ Some type)

-- a row with one value for each of these types
abbrev pub HasTypes : List ValueType → Row → Type 0
HasTypes [] [] = Unit {0}
HasTypes (type ∷ types) (value ∷ values) = IsOfType type value × HasTypes types values
HasTypes _ _ = ⊥

-- rows of these types
abbrev pub AreRows : List ValueType → List Row → Type 0
AreRows types rows = All (HasTypes types) rows

-- the rows that a place sees: one for each of these lists of types
abbrev pub SeesRows : Rows → Env → Type 0
SeesRows [] [] = Unit {0}
SeesRows (types ∷ rows) (row ∷ env) = HasTypes types row × SeesRows rows env
SeesRows _ _ = ⊥

-- each table that is known has rows of its columns' types
abbrev pub HoldsTypes : Known → Tables → Type 0
HoldsTypes known tables = (name : List ℕ) (table : KnownTable) → known.table name ≡ Some table
    → AreRows (column_types table.columns) (tables name)
