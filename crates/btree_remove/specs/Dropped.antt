-- What is left where a tree was.
use Rattle.std.specs.Prelude.{◌≡◌, ℕ, ◌≤◌, List, [], Option, None, Result, OnOk, ⊤}
use Rattle.page_space.specs.declared.error.SpaceError.{SpaceError}
use Rattle.page_space.specs.Space.{PageMap}
use Rattle.btree_read.specs.declared.entry.Entry.{Entry}
use Rattle.btree_read.specs.Lists.{Has}
use Rattle.btree_read.specs.Nodes.{Key}
use Rattle.btree_read.specs.Tree.{Tree, nodes_of, pages_in, IsTree}
use Rattle.btree_read.specs.Leaves.{AreLinked}
use Rattle.btree_read.specs.Search.{IsUnder}

-- these pages are in use no more, and no other page has changed
pub record AreDropped (old new : PageMap) (owned : List ℕ) : Type 0 where
  pub gone : (n : ℕ) → Has n owned → new n ≡ None
  pub others : (n : ℕ) → (Has n owned → ⊥) → new n ≡ old n

-- whatever tree is under the page, its pages are dropped
abbrev pub DropsBelow : PageMap → PageMap → ℕ → Result ⊤ SpaceError → Type 0
DropsBelow old new page result = (d : ℕ) (t : Tree d) (lo : Key) (hi : Option Key) → IsUnder old page d t lo hi
    → OnOk result (AreDropped old new (pages_in (nodes_of d t)))

-- whatever tree is at the root, its pages are dropped
abbrev pub Drops : PageMap → PageMap → ℕ → Result ⊤ SpaceError → Type 0
Drops old new root result = (owned : List ℕ) (entries : List Entry) → IsTree old root owned entries
    → OnOk result (AreDropped old new owned)

-- whatever tree is under the root, its links right or wrong: it is dropped only where they are
-- right
abbrev pub DropsLinked : PageMap → ℕ → Result ⊤ SpaceError → Type 0
DropsLinked pages root result = (d : ℕ) (t : Tree d) → (root ≡ 0 → ⊥) → IsUnder pages root d t [] None
    → OnOk result (AreLinked d t)

-- no tree of at most so many levels is under the page, or the space is not whole
abbrev pub HasNoTreeIn : PageMap → ℕ → ℕ → Type 0 → Type 0
HasNoTreeIn pages page levels Whole = (d : ℕ) (t : Tree d) (lo : Key) (hi : Option Key) → d ≤ levels
    → IsUnder pages page d t lo hi → Whole → ⊥
