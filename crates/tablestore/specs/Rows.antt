-- Rows with one replaced, or without one (ISO/IEC 9075:1992, 13.7, 13.10), and what these changes
-- leave of the pages. Row numbers are our own choice.
use Rattle.std.specs.Prelude.{◌≡◌, ℕ, ◌⊎◌, ◌==◌, not, if◌then◌else◌, List, map, filter, None}
use Rattle.sqlval.specs.Value.{Row}
use Rattle.store.specs.Contents.{Entry}
use Rattle.page_space.specs.Space.{PageMap}
use Rattle.btree_read.specs.Lists.{Has}
use Rattle.tablestore.specs.Held.{HoldsRows}

-- without the row of this number
abbrev pub without_number : ℕ → List Entry → List Entry
without_number number rows = filter (λ (e : Entry). not (e.0 == number)) rows

-- with this row in place of the one of this number
abbrev pub with_number : ℕ → Row → List Entry → List Entry
with_number number row rows = map (λ (e : Entry). if e.0 == number then (number, row) else e) rows

-- The tree at the root now has these rows, in pages that it owned before or that were not in use;
-- those that it owns no more are free, and no other page has changed.
pub record RowsLeft (old new : PageMap) (owned : List ℕ) (rows : List Entry) (root : ℕ) : Type 0 where
  pub now_owned : List ℕ
  pub holds : HoldsRows new root now_owned rows
  pub own : (n : ℕ) → Has n now_owned → Has n owned ⊎ (old n ≡ None)
  pub gone : (n : ℕ) → Has n owned → (Has n now_owned → ⊥) → new n ≡ None
  pub others : (n : ℕ) → (Has n owned → ⊥) → (Has n now_owned → ⊥) → new n ≡ old n
