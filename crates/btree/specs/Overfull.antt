-- Cells that are too many for one page, and branches in order.
use Rattle.std.specs.Prelude.{◌≡◌, ℕ, ◌+◌, ◌*◌, ◌<◌, ◌≤◌, List, [], ◌∷◌, length, true, ⊤}
use Rattle.std.specs.List.{AllByRecursion}
use Rattle.sqlrecord.specs.Build.{total_of}
use Rattle.page_space.specs.Space.{PageMap}
use Rattle.btree_read.specs.declared.entry.Branch.{Branch}
use Rattle.btree_read.specs.Nodes.{Key, precedes}
use Rattle.btree_read.specs.Tree.{Tree, IsWithin, IsTree}
use Rattle.btree_read.specs.Search.{IsUnder}
use Rattle.btree_read.specs.declared.entry.Entry.{Entry}
use Rattle.std.specs.Prelude.{Option, None}

-- the bytes that cells take with their slots
abbrev pub size_of : List (List ℕ) → ℕ
size_of cells = 4 * length cells + total_of cells

abbrev pub AreSmall : List (List ℕ) → Type 0
AreSmall cells = AllByRecursion (λ (cell : List ℕ). 4 + length cell ≤ 1014) cells

-- cells none of which takes more than 1,014 bytes, together more than a page holds, by one cell at
-- most
pub record IsOverfull (cells : List (List ℕ)) : Type 0 where
  pub small : AreSmall cells
  pub over : 4080 < size_of cells
  pub near : size_of cells ≤ 5094

-- the keys of branches strictly rise, the first one behind this key
abbrev pub RisesBehind : Key → List Branch → Type 0
RisesBehind lo [] = ⊤
RisesBehind lo (b ∷ bs) = (precedes lo b.key ≡ true) × RisesBehind b.key bs

-- where the space is whole, no tree of at most so many levels is under the page that may hold the
-- key
abbrev pub HasNoTreeFor : PageMap → ℕ → ℕ → Key → Type 0 → Type 0
HasNoTreeFor pages page levels k Whole = (d : ℕ) (t : Tree d) (lo : Key) (hi : Option Key) → d ≤ levels
    → IsUnder pages page d t lo hi → IsWithin lo hi k → Whole → ⊥

-- the same of a tree with no bound above its keys
abbrev pub HasNoLastTree : PageMap → ℕ → ℕ → Type 0 → Type 0
HasNoLastTree pages page levels Whole = (d : ℕ) (t : Tree d) (lo : Key) → d ≤ levels
    → IsUnder pages page d t lo None → Whole → ⊥

-- no tree is at the root, or the space is not whole
abbrev pub IsNoTreeIn : PageMap → ℕ → Type 0 → Type 0
IsNoTreeIn pages root Whole = (owned : List ℕ) (entries : List Entry) → IsTree pages root owned entries → Whole → ⊥
