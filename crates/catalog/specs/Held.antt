-- The schema that pages hold: its records as the entries of a tree. Our own choice.
use Rattle.std.specs.Prelude.{ℕ, ◌≤◌, List, length, map}
use Rattle.std.specs.List.{AllByRecursion}
use Rattle.sqlval.specs.declared.schema.Table.{Table}
use Rattle.catalog_records.specs.declared.record.Record.{Record}
use Rattle.catalog_records.specs.Records.{schema_records}
use Rattle.catalog_records.specs.Keepable.{AreTables}
use Rattle.catalog_records.specs.References.{AreReferencesOver}
use Rattle.sqlrecord.specs.Storable.{AllStorable}
use Rattle.sqlrecord.specs.Key.{key_code}
use Rattle.sqlrecord.specs.Row.{row_code}
use Rattle.page_space.specs.Space.{PageMap}
use Rattle.btree_read.specs.declared.entry.Entry.{Entry}
use Rattle.btree_read.specs.Tree.{IsTree}

-- a record's key and row as bytes
abbrev pub entry_of : Record → Entry
entry_of r = record { key = key_code r.key; value = row_code r.row }

abbrev pub entries_of : List Record → List Entry
entries_of records = map entry_of records

-- a record whose values have codes, its row one of at most 1,000 bytes
pub record IsCoded (r : Record) : Type 0 where
  pub key : AllStorable r.key
  pub row : AllStorable r.row
  pub short : length (row_code r.row) ≤ 1000

abbrev pub AreCoded : List Record → Type 0
AreCoded records = AllByRecursion IsCoded records

-- the tree at the root has just the records of these tables, and what their foreign keys reference
-- is among them
pub record HoldsSchema (pages : PageMap) (root : ℕ) (owned : List ℕ) (tables : List Table) : Type 0 where
  pub tree : IsTree pages root owned (entries_of (schema_records tables))
  pub range : AreTables tables
  pub coded : AreCoded (schema_records tables)
  pub references : AreReferencesOver tables

-- no tables are held there
abbrev pub HoldsNoSchema : PageMap → ℕ → Type 0
HoldsNoSchema pages root = (owned : List ℕ) (tables : List Table) → HoldsSchema pages root owned tables → ⊥
