-- Changes of rows that keep keys (ISO/IEC 9075:1992, 11.7). That keys which stay are not looked at
-- again is our own choice.
use Rattle.std.specs.Prelude.{◌≡◌, ℕ, Bool, true, false, List, [], ◌∷◌, Some}
use Rattle.std.specs.List.{list_all}
use Rattle.std.specs.Ordering.{is_eq}
use Rattle.sqlval.specs.declared.schema.Constraint.{Constraint}
use Rattle.sqlval.specs.declared.schema.Rule.{Rule}
use Rattle.sqlval.specs.declared.schema.Rule.TheVariants.{NotNull, PrimaryKey, Unique, Check, ForeignKey}
use Rattle.sqlval.specs.Matching.{key_of}
use Rattle.sqlval.specs.Value.{Row}
use Rattle.denote.specs.Database.{Name, Table, CheckReading, is_violated}
use Rattle.constraints.specs.Keys.{by_key}
use Rattle.constraints.specs.Foreseen.{columns_of_key}
use Rattle.update_delete.specs.declared.change.RowChange.{RowChange}
use Rattle.update_delete.specs.declared.change.RowChange.TheVariants.{Stays, Goes, Becomes}

-- the new row does not violate a rule alone, and has the old one's key, if the rule asks for one
pub record KeepsRule (reading : CheckReading) (name : Name) (table : Table) (rule : Rule) (row new : Row) : Type 0 where
  pub alone : is_violated reading name (record table { rows = new ∷ [] }) rule ≡ false
  pub keys : (columns : List ℕ) → columns_of_key rule ≡ Some columns → key_of columns row ≡ key_of columns new

abbrev pub Keeps : CheckReading → Name → Table → List Constraint → Row → Row → Type 0
Keeps reading name table [] row new = Unit {0}
Keeps reading name table (constraint ∷ constraints) row new = KeepsRule reading name table constraint.rule row new
    × Keeps reading name table constraints row new

-- so it is of each row that becomes another, the n-th by the n-th change
abbrev pub KeepsBy : (Row → Row → Type 0) → Row → RowChange → Type 0
KeepsBy keeps row Stays = Unit {0}
KeepsBy keeps row Goes = Unit {0}
KeepsBy keeps row (Becomes new) = keeps row new

abbrev pub KeepAll : (Row → Row → Type 0) → List Row → List RowChange → Type 0
KeepAll keeps [] changes = Unit {0}
KeepAll keeps (row ∷ rows) [] = Unit {0}
KeepAll keeps (row ∷ rows) (change ∷ changes) = KeepsBy keeps row change × KeepAll keeps rows changes

-- whether two rows have the same key, where a rule asks for one
abbrev pub keeps_key : Rule → Row → Row → Bool
keeps_key (NotNull column) row new = true
keeps_key (PrimaryKey columns) row new = is_eq (by_key columns row new)
keeps_key (Unique columns) row new = is_eq (by_key columns row new)
keeps_key (Check text) row new = true
keeps_key (ForeignKey reference) row new = true

abbrev pub keep_keys : List Constraint → Row → Row → Bool
keep_keys constraints row new = list_all (λ (constraint : Constraint). keeps_key constraint.rule row new) constraints
