-- What a walk sees that ends where its leaves have enough entries. Our own choice.
use Rattle.std.specs.Prelude.{◌≡◌, ℕ, ◌-◌, ◌<◌, ◌≤◌, ◌+◌, List, ◌∷◌, ◌++◌, take, drop, length, Option, Some, Result, OnOk, IfOk, ⊤}
use Rattle.page_space.specs.declared.error.SpaceError.{SpaceError}
use Rattle.page_space.specs.Space.{PageMap}
use Rattle.btree_read.specs.declared.entry.Entry.{Entry}
use Rattle.btree_read.specs.declared.entry.Start.{Start}
use Rattle.btree_read.specs.declared.leaf_block.Block.{Block}
use Rattle.btree_read.specs.declared.leaf_block.Seen.{Seen}
use Rattle.btree_read.specs.Leaves.{LeadsOn}
use Rattle.btree_read.specs.Nodes.{Key}
use Rattle.btree_read.specs.Sorted.{from_on}
use Rattle.btree_read.specs.Tree.{Tree, entries_of, leaves_of, IsTree}
use Rattle.btree_read.specs.Search.{IsUnder}

-- the entries of a block of at most so many: those of its leaves from the first one on
abbrev pub entries_in_block : ℕ → Block → List Entry
entries_in_block most block = take most (drop block.first block.leaves)

-- so many entries are wanted yet where the leaves are to have n
abbrev pub IsWanted : ℕ → Seen → Type 0
IsWanted n seen = seen.wanted ≡ n - length seen.walk.entries

-- Of these leaves with these entries as many were seen as the first n entries take; where more were
-- wanted, all of them, and each was named by the one before it.
pub record SeesSome (n : ℕ) (entries : List Entry) (leaves : List (ℕ × ℕ)) (was now : Seen) : Type 0 where
  pub taken : take n now.walk.entries ≡ take n (was.walk.entries ++ entries)
  pub wanted : IsWanted n now
  pub grows : length was.walk.entries ≤ length now.walk.entries
  pub links : 0 < now.wanted → LeadsOn leaves was.walk.named now.walk.named

-- whatever tree is under the page, its leaves are seen behind those that were seen, until there are
-- enough entries
abbrev pub SeesMore : PageMap → ℕ → Seen → Seen → Result ⊤ SpaceError → Type 0
SeesMore pages page was now result =
    (d : ℕ) (t : Tree d) (lo : Key) (hi : Option Key) → IsUnder pages page d t lo hi
    → (n : ℕ) → IsWanted n was → OnOk result (SeesSome n (entries_of d t) (leaves_of d t) was now)

-- of these leaves the last ones, one at least, are each named by the one before it; `to` is what
-- the last one names
pub record LeadTo (leaves : List (ℕ × ℕ)) (to : Option ℕ) : Type 0 where
  pub before : List (ℕ × ℕ)
  pub leaf : ℕ × ℕ
  pub behind : List (ℕ × ℕ)
  pub all : leaves ≡ before ++ leaf ∷ behind
  pub leads : LeadsOn behind (Some leaf.1) to

-- In the leaves that were seen, from the place `first` on, as many of these entries stand as are
-- wanted; where more were wanted, all leaves from the first one on were seen, each named by the one
-- before it.
pub record Begins (most : ℕ) (entries : List Entry) (leaves : List (ℕ × ℕ)) (first : ℕ) (now : Seen) : Type 0 where
  pub inside : first ≤ length now.walk.entries
  pub taken : take most (drop first now.walk.entries) ≡ take most entries
  pub wanted : IsWanted (first + most) now
  pub links : 0 < now.wanted → LeadTo leaves now.walk.named

-- whatever tree is under the page, a walk begins where its entries from there on begin
abbrev pub BeginsBelow : PageMap → ℕ → Start → Key → ℕ → Seen → Result ℕ SpaceError → Type 0
BeginsBelow pages page start k most now result =
    (d : ℕ) (t : Tree d) (lo : Key) (hi : Option Key) → IsUnder pages page d t lo hi
    → IfOk result (λ first. Begins most (from_on start k (entries_of d t)) (leaves_of d t) first now)

-- no tree of at most so many levels is under the page whose leaves are each named by the one before
-- it
abbrev pub HasNoLinkedLeaves : PageMap → ℕ → ℕ → Option ℕ → Type 0
HasNoLinkedLeaves pages page levels from =
    (d : ℕ) (t : Tree d) (lo : Key) (hi : Option Key) (to : Option ℕ) → d ≤ levels → IsUnder pages page d t lo hi
    → LeadsOn (leaves_of d t) from to → ⊥

-- whatever tree is at the root, a block has its first entries from there on, at most so many
abbrev pub HasFirst : PageMap → ℕ → Start → Key → ℕ → Result Block SpaceError → Type 0
HasFirst pages root start k most result = (owned : List ℕ) (entries : List Entry) → IsTree pages root owned entries
    → IfOk result (λ block. entries_in_block most block ≡ take most (from_on start k entries))
