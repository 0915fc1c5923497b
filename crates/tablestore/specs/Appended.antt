-- What rows put behind others leave of the pages, and why they may be refused. Our own choice.
use Rattle.std.specs.Prelude.{◌≡◌, ℕ, ◌+◌, ◌^◌, ◌<◌, ◌⊎◌, List, length, None, IsSome, ⊤}
use Rattle.sqlval.specs.Value.{Row}
use Rattle.sqlval.specs.CodedLength.{row_length}
use Rattle.store.specs.Contents as stored
use Rattle.store.specs.Errors.{HasLongRow}
use Rattle.page_space.specs.Space.{PageMap, ChangeRefused}
use Rattle.page_space.specs.declared.error.SpaceError.{SpaceError}
use Rattle.page_space.specs.declared.error.SpaceError.TheVariants.{Memory}
use Rattle.btree_read.specs.Lists.{Has}
use Rattle.tablestore.specs.declared.error.AppendError.{AppendError}
use Rattle.tablestore.specs.declared.error.AppendError.TheVariants.{Space, Record, Number}
use Rattle.tablestore.specs.Held.{HoldsRows}

-- The tree at the root now has these rows, in pages that it owned before or that were not in use;
-- no other page in use has changed.
pub record RowsWritten (old new : PageMap) (owned : List ℕ) (rows : List stored.Entry) (root : ℕ) : Type 0 where
  pub now_owned : List ℕ
  pub holds : HoldsRows new root now_owned rows
  pub own : (n : ℕ) → Has n now_owned → Has n owned ⊎ (old n ≡ None)
  pub others : (n : ℕ) → (Has n owned → ⊥) → IsSome (old n) → new n ≡ old n

-- no rows are held there in a space whose list of free pages is one
abbrev pub HoldsNoRowsIn : PageMap → ℕ → Type 0 → Type 0
HoldsNoRowsIn pages root Whole = (owned : List ℕ) (rows : List stored.Entry) → HoldsRows pages root owned rows
    → Whole → ⊥

-- Why rows may be refused, with what is known where it was for damage and with the counts of
-- refused device calls before and after: as a change of pages is, and where a row is too long.
abbrev pub MayRefuse : (SpaceError → Type 0) → Type 0 → ℕ → ℕ → List Row → AppendError → Type 0
MayRefuse AtLimit Harm before after rows (Space fault) = ChangeRefused AtLimit Harm before after fault
MayRefuse AtLimit Harm before after rows Record = HasLongRow rows
MayRefuse AtLimit Harm before after rows Number = ⊤

-- for want of a number only where the numbers end
abbrev pub NumbersEnd : List stored.Entry → ℕ → AppendError → Type 0
NumbersEnd held count (Space fault) = ⊤
NumbersEnd held count Record = ⊤
NumbersEnd held count Number = 2 ^ 63 < stored.next_number held + count

-- a refusal of one row: want of memory, or its length
abbrev pub IsOfRow : Row → AppendError → Type 0
IsOfRow row (Space fault) = fault ≡ Memory
IsOfRow row Record = 1000 < row_length row
IsOfRow row Number = ⊥

-- a refusal of rows that are numbered from `first` on: want of memory, the length of one, or that
-- the numbers end
abbrev pub IsOfRows : ℕ → List Row → AppendError → Type 0
IsOfRows first rows (Space fault) = fault ≡ Memory
IsOfRows first rows Record = HasLongRow rows
IsOfRows first rows Number = 2 ^ 63 < first + length rows

-- a refusal of one row that is put into a tree
abbrev pub MayRefuseRow : (SpaceError → Type 0) → Type 0 → ℕ → ℕ → Row → AppendError → Type 0
MayRefuseRow AtLimit Harm before after row (Space fault) = ChangeRefused AtLimit Harm before after fault
MayRefuseRow AtLimit Harm before after row Record = 1000 < row_length row
MayRefuseRow AtLimit Harm before after row Number = ⊥
