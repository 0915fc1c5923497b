-- Two databases of which one is the other but for the rows of a table: some came, others went. What
-- is asked of these for the foreign keys of all tables (ISO/IEC 9075:1992, 11.8, 4.10.1). That no
-- other row is looked at is our own choice.
use Rattle.std.specs.Prelude.{◌≡◌, Bool, true, false, not, ◌||◌, List, [], ◌++◌, Some}
use Rattle.std.specs.List.{list_any, list_all}
use Rattle.std.specs.FinMap.{get}
use Rattle.sqlval.specs.declared.schema.Reference.{Reference}
use Rattle.sqlval.specs.declared.schema.Rule.{Rule}
use Rattle.sqlval.specs.declared.schema.Rule.TheVariants.{NotNull, PrimaryKey, Unique, Check, ForeignKey}
use Rattle.sqlval.specs.Matching.{key_of, matches}
use Rattle.sqlval.specs.Schema.{same_name}
use Rattle.sqlval.specs.Value.{Row}
use Rattle.denote.specs.Bag.{Permutes}
use Rattle.denote.specs.Database.{Name, Table, Database, rows_in, unmatched_by}

-- Under a name the new database has a table with the same constraints; rows came to it, and others
-- are no longer in it. All other tables are the same.
pub record Differs (old new : Database) (name : Name) (came gone : List Row) : Type 0 where
  pub table : Table
  pub was_there : get old name ≡ Some table
  pub now : Table
  pub there : get new name ≡ Some now
  pub constraints : now.constraints ≡ table.constraints
  pub stay : List Row
  pub before : Permutes (stay ++ gone) table.rows
  pub after : Permutes (stay ++ came) now.rows
  pub others : (other : Name) → same_name other name ≡ false → get new other ≡ get old other

-- the rows that came satisfy the foreign keys of their table
abbrev pub AreMatched : Database → Name → List Row → Type 0
AreMatched db name came = (table : Table) → get db name ≡ Some table
    → unmatched_by (rows_in db) table.constraints came ≡ []

-- Whether a row may go from a table that is referenced, of which these are the rows then: its key
-- is there again, or is in none of the rows that reference the table. A key with a null is in none.
abbrev pub may_go : Reference → List Row → List Row → Row → Bool
may_go reference others rows gone =
    list_any (matches reference.referenced (key_of reference.referenced gone)) others || not (list_any (matches reference.columns (key_of reference.referenced gone)) rows)

-- whether these rows may go from the table of a name, for a rule that these rows have
abbrev pub may_all_go : Name → List Row → List Row → List Row → Rule → Bool
may_all_go name others gone rows (NotNull column) = true
may_all_go name others gone rows (PrimaryKey columns) = true
may_all_go name others gone rows (Unique columns) = true
may_all_go name others gone rows (Check text) = true
may_all_go name others gone rows (ForeignKey reference) = not (same_name reference.table name) || list_all (may_go reference others rows) gone

-- the rows that went may go, for the foreign keys of all tables
abbrev pub MayGo : Database → Name → List Row → Type 0
MayGo db name gone = (other : Name) (table : Table) → get db other ≡ Some table
    → list_all (λ c. may_all_go name (rows_in db name) gone table.rows c.rule) table.constraints ≡ true
