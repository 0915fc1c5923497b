-- A schema with one more table, and what a change of it leaves of the pages. Our own choice.
use Rattle.std.specs.Prelude.{◌≡◌, ℕ, ◌⊎◌, ◌≢◌, List, [], ◌∷◌, None, IsSome, ⊤, if◌then◌else◌}
use Rattle.std.specs.List.{AllByRecursion}
use Rattle.std.specs.Ordering.{is_lt}
use Rattle.sqlval.specs.declared.schema.Table.{Table}
use Rattle.sqlval.specs.Comparison.{text_order}
use Rattle.catalog_records.specs.declared.record.Record as catalogued
use Rattle.sqlrecord.specs.Key.{key_code}
use Rattle.sqlrecord.specs.Row.{row_code}
use Rattle.page_space.specs.Space.{PageMap, ChangeRefused}
use Rattle.page_space.specs.declared.error.SpaceError.{SpaceError}
use Rattle.page_space.specs.declared.error.SpaceError.TheVariants.{Memory}
use Rattle.catalog.specs.declared.error.ChangeError.{ChangeError}
use Rattle.catalog.specs.declared.error.ChangeError.TheVariants.{Space, Record, Key}
use Rattle.btree_read.specs.declared.entry.Entry.{Entry}
use Rattle.btree_read.specs.Lists.{Has}
use Rattle.btree_read.specs.Sorted.{put}
use Rattle.catalog.specs.Held.{HoldsSchema}

-- with a table more, before the first whose name is not less
abbrev pub with_table : Table → List Table → List Table
with_table table [] = table ∷ []
with_table table (t ∷ tables) = if is_lt (text_order t.name table.name) then t ∷ with_table table tables else table ∷ t ∷ tables

-- with its rows in the tree at another root
abbrev pub with_root : ℕ → Table → Table
with_root root table = record table { root = root }

-- no table has this name
abbrev pub IsFree : List ℕ → List Table → Type 0
IsFree name tables = AllByRecursion (λ t. t.name ≢ name) tables

-- the entries with those of records put in, one after another
abbrev pub put_all : List catalogued.Record → List Entry → List Entry
put_all [] entries = entries
put_all (r ∷ records) entries = put_all records (put (key_code r.key) (row_code r.row) entries)

-- The tree at the root now holds these tables, in pages that it owned before or that were not in
-- use; no other page in use has changed.
pub record SchemaWritten (old new : PageMap) (owned : List ℕ) (tables : List Table) (root : ℕ) : Type 0 where
  pub now_owned : List ℕ
  pub holds : HoldsSchema new root now_owned tables
  pub own : (n : ℕ) → Has n now_owned → Has n owned ⊎ (old n ≡ None)
  pub others : (n : ℕ) → (Has n owned → ⊥) → IsSome (old n) → new n ≡ old n

-- no tables are held there in a space whose list of free pages is one
abbrev pub HoldsNoSchemaIn : PageMap → ℕ → Type 0 → Type 0
HoldsNoSchemaIn pages root Whole = (owned : List ℕ) (tables : List Table) → HoldsSchema pages root owned tables
    → Whole → ⊥

-- Why a change of a schema may be refused, with what is known where it was for damage and with the
-- counts of refused device calls before and after: as a change of pages is, and where a record is
-- too long.
abbrev pub MayRefuse : (SpaceError → Type 0) → Type 0 → ℕ → ℕ → ChangeError → Type 0
MayRefuse AtLimit Harm before after (Space fault) = ChangeRefused AtLimit Harm before after fault
MayRefuse AtLimit Harm before after Record = ⊤
MayRefuse AtLimit Harm before after Key = ⊤

-- of these, those that a record alone is the reason for, and want of memory
abbrev pub IsOfRecord : ChangeError → Type 0
IsOfRecord (Space fault) = fault ≡ Memory
IsOfRecord Record = ⊤
IsOfRecord Key = ⊤
