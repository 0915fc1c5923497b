-- What decoding the records of a catalogue gives. Our own choice.
use Rattle.std.specs.Prelude.{◌≡◌, List, ◌++◌, Result, Ok, Err}
use Rattle.catalog_records.specs.declared.record.Record.{Record}
use Rattle.catalog_records.specs.declared.read_error.ReadError.{ReadError}
use Rattle.catalog_records.specs.declared.read_error.ReadError.TheVariants.{Memory}
use Rattle.btree_read.specs.declared.entry.Entry.{Entry}
use Rattle.sqlval.specs.declared.schema.Table.{Table}
use Rattle.catalog_records.specs.Records.{schema_records}
use Rattle.catalog_records.specs.Keepable.{AreTables}
use Rattle.catalog_records.specs.References.{AreReferencesOver}
use Rattle.catalog.specs.Held.{entries_of, AreCoded}

-- of these records, which have codes, the first ones were read, and the entries that are left are
-- those of the others
pub record AreLeft (read : List Record) (ahead : List Entry) (all : List Record) : Type 0 where
  pub rest : List Record
  pub are : read ++ rest ≡ all
  pub left : ahead ≡ entries_of rest
  pub coded : AreCoded rest

-- that is so afterwards, or else memory was refused
abbrev pub Leaves : {A : Type 0} → Result A ReadError → Type 0 → Type 0
Leaves (Ok given) So = So
Leaves (Err error) So = error ≡ Memory

-- where these entries are the records of tables, they are those of these
abbrev pub IsDecoded : List Entry → List Table → Type 0
IsDecoded entries found = (tables : List Table) → AreTables tables → AreReferencesOver tables
    → AreCoded (schema_records tables) → entries ≡ entries_of (schema_records tables) → found ≡ tables
