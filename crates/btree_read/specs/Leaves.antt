-- What a walk over the leaves of a tree sees. Our own choice.
use Rattle.std.specs.Prelude.{◌≡◌, ℕ, ◌≤◌, List, [], ◌∷◌, ◌++◌, Option, Some, None, Result, OnOk, IfOk, ⊤}
use Rattle.page_space.specs.declared.error.SpaceError.{SpaceError}
use Rattle.page_space.specs.Space.{PageMap}
use Rattle.btree_read.specs.declared.entry.Entry.{Entry}
use Rattle.btree_read.specs.Lists.{Leads}
use Rattle.btree_read.specs.Nodes.{Key}
use Rattle.btree_read.specs.Tree.{Tree, entries_of, leaves_of}
use Rattle.btree_read.specs.Search.{IsUnder}
use Rattle.btree_read.specs.declared.leaf.Walk.{Walk}

-- the leaf before, if there is one, names this page
abbrev pub Names : Option ℕ → ℕ → Type 0
Names None page = ⊤
Names (Some before) page = before ≡ page

-- of these leaves, each a page with the page that it names, each is named by the one before it;
-- `to` is what the last one names
abbrev pub LeadsOn : List (ℕ × ℕ) → Option ℕ → Option ℕ → Type 0
LeadsOn [] from to = from ≡ to
LeadsOn (leaf ∷ leaves) from to = Names from leaf.0 × LeadsOn leaves (Some leaf.1) to

-- whatever tree is under the page, its entries are behind those that were there, and each of its
-- leaves was named by the one before it
abbrev pub SeesBelow : PageMap → ℕ → Walk → Walk → Result ⊤ SpaceError → Type 0
SeesBelow pages page was now result =
    (d : ℕ) (t : Tree d) (lo : Key) (hi : Option Key) → IsUnder pages page d t lo hi
    → OnOk result ((now.entries ≡ was.entries ++ entries_of d t) × LeadsOn (leaves_of d t) was.named now.named)

-- no tree of at most so many levels is under the page whose leaves are each named by the one before
-- it
abbrev pub HasNoLinkedTree : PageMap → ℕ → ℕ → Walk → Type 0
HasNoLinkedTree pages page levels was =
    (d : ℕ) (t : Tree d) (lo : Key) (hi : Option Key) (to : Option ℕ) → d ≤ levels → IsUnder pages page d t lo hi
    → LeadsOn (leaves_of d t) was.named to → ⊥

-- each leaf of a tree names the next one, and the last one names 0
pub record AreLinked (d : ℕ) (t : Tree d) : Type 0 where
  pub leftmost : ℕ
  pub links : Leads leftmost (leaves_of d t) 0

-- whatever tree is at the root, its links right or wrong: where its entries are given, the links
-- were seen to be right
abbrev pub SeesLinks : PageMap → ℕ → Result (List Entry) SpaceError → Type 0
SeesLinks pages root result =
    (d : ℕ) (t : Tree d) → IsUnder pages root d t [] None
    → IfOk result (λ entries. (entries ≡ entries_of d t) × AreLinked d t)
