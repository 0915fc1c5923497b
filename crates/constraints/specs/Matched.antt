-- What is said of a database that would be: that none of its tables violates a constraint, or why
-- it is not made (ISO/IEC 9075:1992, 4.10; 11.8).
use Rattle.std.specs.Prelude.{◌≡◌, Bool, true, false, ◌||◌, List, [], Option, Some, None, Contains}
use Rattle.std.specs.FinMap.{get}
use Rattle.std.specs.List.{list_any}
use Rattle.refusals.specs.declared.refusal.Refusal.{Refusal}
use Rattle.refusals.specs.declared.refusal.Refusal.TheVariants.{Violated}
use Rattle.sqlval.specs.declared.schema.Constraint.{Constraint}
use Rattle.sqlval.specs.declared.schema.Rule.{Rule}
use Rattle.sqlval.specs.declared.schema.Rule.TheVariants.{NotNull, PrimaryKey, Unique, Check, ForeignKey}
use Rattle.sqlval.specs.Schema.{same_name}
use Rattle.sqlval.specs.Value.{Row}
use Rattle.denote.specs.Database.{Name, Database, Table, CheckReading, violated_in}
use Rattle.session_definitions.specs.Refusals.{IsReserved}
use Rattle.constraints.specs.declared.matching.Moved.{Moved}

-- no table violates a constraint
abbrev pub AllHold : CheckReading → Database → Type 0
AllHold reading db = violated_in reading db ≡ []

-- what may stand in place of any reply, or a constraint that some table violates
pub data BreaksAny (reading : CheckReading) (db : Database) (refusal : Refusal) : Type 0 where
  withheld : IsReserved refusal → BreaksAny reading db refusal
  violates : (constraint : Name) → refusal ≡ Violated constraint → Contains (violated_in reading db) constraint
      → BreaksAny reading db refusal

abbrev pub is_foreign_key : Rule → Bool
is_foreign_key (NotNull column) = false
is_foreign_key (PrimaryKey columns) = false
is_foreign_key (Unique columns) = false
is_foreign_key (Check text) = false
is_foreign_key (ForeignKey reference) = true

abbrev pub has_foreign_keys : List Constraint → Bool
has_foreign_keys = list_any (λ c. is_foreign_key c.rule)

-- whether a rule of the table of one name is a foreign key that has the table of another at an end
abbrev pub is_end : Name → Name → Rule → Bool
is_end name other (NotNull column) = false
is_end name other (PrimaryKey columns) = false
is_end name other (Unique columns) = false
is_end name other (Check text) = false
is_end name other (ForeignKey reference) = same_name other name || same_name reference.table name

-- no foreign key of any table has the table of this name at one of its ends
abbrev pub IsAtNoEnd : Database → Name → Type 0
IsAtNoEnd db name = (other : Name) (table : Table) → get db other ≡ Some table
    → list_any (λ c. is_end name other c.rule) table.constraints ≡ false

-- the rows that came to a table and those that went, where a foreign key has it at an end; nothing
-- only where none has
abbrev pub MovedAll : Database → Name → List Row → List Row → Option Moved → Type 0
MovedAll db name came gone (Some moved) = (moved.came ≡ came) × (moved.gone ≡ gone)
MovedAll db name came gone None = IsAtNoEnd db name

-- the rows that came, where the table of this name has a foreign key; nothing only where it has
-- none
abbrev pub CameAll : Database → Name → List Row → Option (List Row) → Type 0
CameAll db name rows (Some came) = came ≡ rows
CameAll db name rows None = (table : Table) → get db name ≡ Some table → has_foreign_keys table.constraints ≡ false
