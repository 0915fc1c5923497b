-- What is said of a table of a database that would be: that it violates no constraint, or why the
-- database is not made (ISO/IEC 9075:1992, 4.10; 11.4 to 11.9).
use Rattle.std.specs.Prelude.{◌≡◌, List, [], ◌++◌, Some, Contains}
use Rattle.std.specs.FinMap.{get}
use Rattle.refusals.specs.declared.refusal.Refusal.{Refusal}
use Rattle.sqlval.specs.declared.schema.Column.{Column}
use Rattle.sqlval.specs.declared.schema.Constraint.{Constraint}
use Rattle.refusals.specs.declared.refusal.Refusal.TheVariants.{Violated}
use Rattle.sqlval.specs.Value.{Row}
use Rattle.denote.specs.Bag.{Permutes}
use Rattle.denote.specs.Database.{Name, Table, Database, CheckReading, violated_by}
use Rattle.session_definitions.specs.Refusals.{IsReserved}

-- what decides CHECKs does so for the table of this name, if there is one
abbrev pub Decided : (Name → List Column → List Constraint → Type 0) → Database → Name → Type 0
Decided decides db name = (table : Table) → get db name ≡ Some table → decides name table.columns table.constraints

-- the table of this name, if there is one, violates nothing
abbrev pub Holds : CheckReading → Database → Name → Type 0
Holds reading db name = (table : Table) → get db name ≡ Some table → violated_by reading name table ≡ []

-- the table of this name is there, and these rows are some of its own, in any order
pub record AreAmong (db : Database) (name : Name) (rows : List Row) : Type 0 where
  pub table : Table
  pub there : get db name ≡ Some table
  pub others : List Row
  pub order : Permutes (others ++ rows) table.rows

-- these rows are some of its own, if it is there, and the others violate nothing
abbrev pub OthersHold : CheckReading → Database → Name → List Row → Type 0
OthersHold reading db name rows =
    (table : Table) → get db name ≡ Some table
    → (others : List Row) × Permutes (others ++ rows) table.rows
    × (violated_by reading name (record table { rows = others }) ≡ [])

-- what may stand in place of any reply, or a constraint that the table violates
pub data Breaks (reading : CheckReading) (db : Database) (name : Name) (refusal : Refusal) : Type 0 where
  withheld : IsReserved refusal → Breaks reading db name refusal
  violates : (table : Table) (constraint : Name) → get db name ≡ Some table → refusal ≡ Violated constraint
      → Contains (violated_by reading name table) constraint
      → Breaks reading db name refusal
