-- Where rows are looked for that have a key: by an index, or among all rows of a table that were
-- read. What is found there is what the definitions say of the rows of the table.
use Rattle.std.specs.Prelude.{◌≡◌, ℕ, Bool, true, not, ◌&&◌, ◌||◌, List, Option, Some, IfSome}
use Rattle.std.specs.List.{list_any}
use Rattle.sqlval.specs.Matching.{key_of, matches}
use Rattle.sqlval.specs.Schema.{same_name}
use Rattle.sqlval.specs.Value.{Row}
use Rattle.sqlval.specs.declared.schema.Reference.{Reference}
use Rattle.denote.specs.Database.{Name, has_unmatched}
use Rattle.denote_laws.specs.Difference.{may_go}
use Rattle.store.specs.Contents.{StoredTable, rows_of}
use Rattle.store.specs.Indexes.{columns_at, entries_of}
use Rattle.store.specs.View.{Shown, table_named}
use Rattle.foreign_keys.specs.declared.sources.Source.{Source}
use Rattle.foreign_keys.specs.declared.sources.Source.TheVariants.{Index, Rows}
use Rattle.foreign_keys.specs.declared.asked.Asked.{Asked}
use Rattle.foreign_keys.specs.declared.ways.Way.{Way}
use Rattle.foreign_keys.specs.Pairs.{are_same_pairs}

-- the rows of the table of a name that a reading shows
abbrev pub rows_shown : Shown → Name → List Row
rows_shown shown name = rows_of (entries_of (table_named shown name))

-- an index at the way's place of a stored table compares the same columns
pub record LeadsAt (table : Option StoredTable) (from to : List ℕ) (way : Way) : Type 0 where
  pub columns : List ℕ
  pub over : columns_at table way.place ≡ Some columns
  pub pairs : are_same_pairs way.columns columns from to ≡ true

-- rows that have at some columns the key of others are found there
abbrev pub IsSource : Option StoredTable → List ℕ → List ℕ → Source → Type 0
IsSource table from to (Index way) = LeadsAt table from to way.now
IsSource table from to (Rows rows) = rows ≡ rows_of (entries_of table)

-- whether some row of a table has at some columns the key that a row has at others
abbrev pub is_found : List Row → List ℕ → List ℕ → Row → Bool
is_found rows from to row = list_any (matches to (key_of from row)) rows

-- whether one of these rows may not go
abbrev pub has_missed : Reference → List Row → List Row → List Row → Bool
has_missed reference others rows gone = list_any (λ row. not (may_go reference others rows row)) gone

-- the indexes of a foreign key are those of the tables that a reading shows
pub record Leads (shown : Shown) (asked : Asked) : Type 0 where
  pub matches : IfSome asked.matches (LeadsAt (table_named shown asked.reference.table) asked.reference.columns asked.reference.referenced)
  pub again : IfSome asked.again (LeadsAt (table_named shown asked.reference.table) asked.reference.referenced asked.reference.referenced)
  pub referencing : IfSome asked.referencing (LeadsAt (table_named shown asked.table) asked.reference.referenced asked.reference.columns)

-- whether it is violated by rows that came to the table of a name, or for want of rows that went
abbrev pub is_violated_by : Shown → Name → List Row → List Row → Asked → Bool
is_violated_by shown name came gone asked =
    (same_name asked.table name && has_unmatched asked.reference (rows_shown shown asked.reference.table) came)
    || (same_name asked.reference.table name && has_missed asked.reference (rows_shown shown asked.reference.table) (rows_shown shown asked.table) gone)
