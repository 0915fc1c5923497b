-- What a removal from a schema leaves of the pages. Our own choice.
use Rattle.std.specs.Prelude.{◌≡◌, ℕ, ◌⊎◌, List, ◌∷◌, ◌++◌, None}
use Rattle.sqlval.specs.declared.schema.Table.{Table}
use Rattle.page_space.specs.Space.{PageMap}
use Rattle.btree_read.specs.declared.entry.Entry.{Entry}
use Rattle.btree_read.specs.Lists.{Has}
use Rattle.btree_read.specs.Tree.{IsTree}
use Rattle.catalog.specs.Held.{HoldsSchema}

-- The tree at the root now has these entries, in pages that it owned before or that were not in
-- use; those that it owns no more are free, and no other page has changed.
pub record EntriesLeft (old new : PageMap) (owned : List ℕ) (entries : List Entry) (root : ℕ) : Type 0 where
  pub now_owned : List ℕ
  pub stored : IsTree new root now_owned entries
  pub own : (n : ℕ) → Has n now_owned → Has n owned ⊎ (old n ≡ None)
  pub gone : (n : ℕ) → Has n owned → (Has n now_owned → ⊥) → new n ≡ None
  pub others : (n : ℕ) → (Has n owned → ⊥) → (Has n now_owned → ⊥) → new n ≡ old n

-- some tree is at the root
pub record HasTree (pages : PageMap) (root : ℕ) : Type 0 where
  pub owned : List ℕ
  pub entries : List Entry
  pub tree : IsTree pages root owned entries

-- the same of a schema: it has these tables
pub record SchemaLeft (old new : PageMap) (owned : List ℕ) (tables : List Table) (root : ℕ) : Type 0 where
  pub now_owned : List ℕ
  pub holds : HoldsSchema new root now_owned tables
  pub own : (n : ℕ) → Has n now_owned → Has n owned ⊎ (old n ≡ None)
  pub gone : (n : ℕ) → Has n owned → (Has n now_owned → ⊥) → new n ≡ None
  pub others : (n : ℕ) → (Has n owned → ⊥) → (Has n now_owned → ⊥) → new n ≡ old n

-- no schema with this table is held there in a space whose list of free pages is one
abbrev pub HoldsNoneWith : PageMap → ℕ → Table → Type 0 → Type 0
HoldsNoneWith pages root table Whole = (owned : List ℕ) (before behind : List Table)
    → HoldsSchema pages root owned (before ++ table ∷ behind) → Whole → ⊥
