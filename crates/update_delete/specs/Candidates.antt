-- The rows among which a change by a condition looks for those that it touches (ISO/IEC 9075:1992,
-- 13.7, 13.10). That an index is asked for them is our own choice.
use Rattle.std.specs.Prelude.{◌≡◌, ℕ, Bool, false, List, filter, slice_get, Contains, Option, Some, Ok}
use Rattle.std.specs.Option.{option_map}
use Rattle.sqlval.specs.declared.schema.Index.{Index}
use Rattle.sqlval.specs.declared.schema.Schema.{Schema}
use Rattle.sqlval.specs.declared.schema.Table.{Table}
use Rattle.sqlval.specs.Value.{Row}
use Rattle.algebra.specs.declared.tree.Condition.{Condition}
use Rattle.denote.specs.Database.{Name}
use Rattle.denote.specs.Meaning.{Tables}
use Rattle.store.specs.declared.rows.Numbered.{Numbered}
use Rattle.store.specs.Contents.{Entry, StoredTable}
use Rattle.store.specs.Indexes.{entries_of}
use Rattle.store.specs.View.{AreEntries}
use Rattle.key_lookups.specs.Sought.{key_sought}
use Rattle.update_delete.specs.declared.candidates.LookUp.{LookUp}
use Rattle.update_delete.specs.Given.{touched_given}

-- the rows of a table that pass a test; at no other one is the condition true, nor does it raise a
-- fault there
pub record AreCandidates (table : Option StoredTable) (tree : Option Condition) (found : Numbered) : Type 0 where
  pub test : Row → Bool
  pub others : (tables : Tables) (row : Row) → test row ≡ false → touched_given tables tree row ≡ Ok false
  pub are : AreEntries found (filter (λ (e : Entry). test e.1) (entries_of table))

-- the index at this place has these columns, and the condition asks for this key in them
pub record Asks (indexes : List Index) (tree : Condition) (look_up : LookUp) : Type 0 where
  pub columns : List ℕ
  pub over : option_map (λ (index : Index). index.columns) (slice_get indexes look_up.place) ≡ Some columns
  pub sought : key_sought columns tree ≡ Some look_up.key

-- of the table of this name
pub record AsksIn (schema : Schema) (name : Name) (tree : Option Condition) (look_up : LookUp) : Type 0 where
  pub table : Table
  pub inside : Contains schema.tables table
  pub named : table.name ≡ name
  pub condition : Condition
  pub is : tree ≡ Some condition
  pub asks : Asks table.indexes condition look_up
