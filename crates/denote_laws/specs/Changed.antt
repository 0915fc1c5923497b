-- Changes that are the same up to the order of rows; the database after a change.
use Rattle.std.specs.Prelude.{◌≡◌, true, false, List, length, Some, None}
use Rattle.std.specs.FinMap.{get, insert}
use Rattle.sqlval.specs.Schema.{same_name}
use Rattle.typing.specs.Known.{references}
use Rattle.sqlval.specs.Value.{Row}
use Rattle.denote.specs.Bag.{Permutes, HasSame}
use Rattle.denote.specs.Meaning.{Tables}
use Rattle.typing.specs.declared.statement.Change.{Change}
use Rattle.typing.specs.declared.statement.CreateTable.{CreateTable}
use Rattle.typing.specs.declared.statement.Change.TheVariants as does
use Rattle.denote.specs.Database.{Name, Table, Database, AreReadable, AreReferencesIn, are_places, constraint_columns, IsSameDatabase}
use Rattle.denote.specs.Change.{Changed, Makes, Raises, Violates, created}

-- the same rows under each name
abbrev pub AreSameTables : Tables → Tables → Type 0
AreSameTables t u = (name : Name) → Permutes (t name) (u name)

-- the same database and count, or the same set of faults, or the same set of names
abbrev pub IsSameChange : Changed → Changed → Type 0
IsSameChange (Makes db count) (Makes new other) = IsSameDatabase db new × (count ≡ other)
IsSameChange (Makes db count) (Raises faults) = ⊥
IsSameChange (Makes db count) (Violates names) = ⊥
IsSameChange (Raises faults) (Makes db count) = ⊥
IsSameChange (Raises faults) (Raises others) = HasSame faults others
IsSameChange (Raises faults) (Violates names) = ⊥
IsSameChange (Violates names) (Makes db count) = ⊥
IsSameChange (Violates names) (Raises faults) = ⊥
IsSameChange (Violates names) (Violates others) = HasSame names others

-- a table with other rows
abbrev pub with_table_rows : Table → List Row → Table
with_table_rows table rows = record table { rows = rows }

-- the database after a change: the one that it makes, else the one before
abbrev pub after : Database → Changed → Database
after db (Makes new count) = new
after db (Raises faults) = db
after db (Violates names) = db

-- A table that is created is right: its name is free, its CHECKs can be read, its constraints name
-- columns of it, and its foreign keys reference columns that are there, of it or of others.
pub record IsRight (db : Database) (c : CreateTable) : Type 0 where
  pub free : get db c.name ≡ None
  pub readable : AreReadable c.name c.columns c.constraints
  pub named : are_places (length c.columns) (constraint_columns c.constraints) ≡ true
  pub referenced : AreReferencesIn (insert db c.name (created c)) c.constraints

-- no table but this one references it
abbrev pub IsNotReferenced : Database → Name → Type 0
IsNotReferenced db name = (other : Name) (table : Table) → get db other ≡ Some table → same_name other name ≡ false
    → references name table.constraints ≡ false

-- What a change declares is right: a table that it creates is; a table that it drops is referenced
-- by no other one; an index names columns of its table.
abbrev pub DeclaresRightly : Database → Change → Type 0
DeclaresRightly db (does.CreateTable c) = IsRight db c
DeclaresRightly db (does.DropTable name) = IsNotReferenced db name
DeclaresRightly db (does.CreateIndex c) = (table : Table) → get db c.table ≡ Some table
    → are_places (length table.columns) c.columns ≡ true
DeclaresRightly db _ = Unit {0}
