-- Schemas that the program can hold: its numbers have their types' ranges, the n of VARCHAR(n) is
-- not 0, and the places of a table's constraints and indexes are those of its columns. Our own
-- choice.
use Rattle.std.specs.Prelude.{ℕ, ◌<◌, ◌^◌, List, [], ◌∷◌, length}
use Rattle.std.specs.List.{AllByRecursion}
use Rattle.sqlval.specs.declared.storing.ColumnType.{ColumnType}
use Rattle.sqlval.specs.declared.storing.ColumnType.TheVariants.{Integer, Varchar}
use Rattle.sqlval.specs.declared.schema.Table.{Table}
use Rattle.sqlval.specs.declared.schema.Column.{Column}
use Rattle.sqlval.specs.declared.schema.Constraint.{Constraint}
use Rattle.sqlval.specs.declared.schema.Reference.{Reference}
use Rattle.sqlval.specs.declared.schema.Rule.{Rule}
use Rattle.sqlval.specs.declared.schema.Rule.TheVariants.{NotNull, PrimaryKey, Unique, Check, ForeignKey}
use Rattle.sqlval.specs.declared.schema.Index.{Index}

-- a place is a number of 64 bits
abbrev pub ArePlaces : List ℕ → Type 0
ArePlaces places = AllByRecursion (λ place. place < 2 ^ 64) places

-- INTEGER, or VARCHAR(n) with n from 1 to 255
abbrev pub IsType : ColumnType → Type 0
IsType Integer = Unit {0}
IsType (Varchar n) = (0 < n) × (n < 256)

abbrev pub IsColumn : Column → Type 0
IsColumn column = IsType column.column_type

pub record IsReference (reference : Reference) : Type 0 where
  pub columns : ArePlaces reference.columns
  pub referenced : ArePlaces reference.referenced

abbrev pub IsRule : Rule → Type 0
IsRule (NotNull column) = column < 2 ^ 64
IsRule (PrimaryKey columns) = ArePlaces columns
IsRule (Unique columns) = ArePlaces columns
IsRule (Check text) = Unit {0}
IsRule (ForeignKey reference) = IsReference reference

abbrev pub IsConstraint : Constraint → Type 0
IsConstraint constraint = IsRule constraint.rule

-- places of columns, where there are so many
abbrev pub AreAmong : ℕ → List ℕ → Type 0
AreAmong count places = AllByRecursion (λ place. place < count) places

-- Whether a rule names by their places only columns of a table that has so many, where it speaks of
-- its own table.
abbrev pub IsRuleOver : ℕ → Rule → Type 0
IsRuleOver count (NotNull column) = column < count
IsRuleOver count (PrimaryKey columns) = AreAmong count columns
IsRuleOver count (Unique columns) = AreAmong count columns
IsRuleOver count (Check text) = Unit {0}
IsRuleOver count (ForeignKey reference) = AreAmong count reference.columns

-- a constraint and an index of a table with so many columns
abbrev pub IsConstraintOver : ℕ → Constraint → Type 0
IsConstraintOver count constraint = IsRuleOver count constraint.rule

abbrev pub IsIndexOver : ℕ → Index → Type 0
IsIndexOver count index = AreAmong count index.columns

-- a page's number has 32 bits
pub record IsIndex (index : Index) : Type 0 where
  pub root : index.root < 2 ^ 32
  pub columns : ArePlaces index.columns

pub record IsTable (t : Table) : Type 0 where
  pub root : t.root < 2 ^ 32
  pub columns : AllByRecursion IsColumn t.columns
  pub constraints : AllByRecursion IsConstraint t.constraints
  pub indexes : AllByRecursion IsIndex t.indexes
  pub constraints_over : AllByRecursion (IsConstraintOver (length t.columns)) t.constraints
  pub indexes_over : AllByRecursion (IsIndexOver (length t.columns)) t.indexes

abbrev pub AreTables : List Table → Type 0
AreTables tables = AllByRecursion IsTable tables
