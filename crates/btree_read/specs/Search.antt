-- What searches give.
use Rattle.std.specs.Prelude.{◌≡◌, ℕ, ◌≤◌, List, [], ◌∷◌, ◌++◌, take, Option, Result, IfOk, OnOk, if◌then◌else◌, zero, suc, ⊤}
use Rattle.page_space.specs.declared.error.SpaceError.{SpaceError}
use Rattle.page_space.specs.Space.{PageMap}
use Rattle.sqlrecord.specs.Page.{PageView}
use Rattle.btree_read.specs.declared.entry.Entry.{Entry}
use Rattle.btree_read.specs.Lists.{Apart}
use Rattle.btree_read.specs.declared.entry.Branch.{Branch}
use Rattle.btree_read.specs.declared.entry.Start.{Start}
use Rattle.btree_read.specs.Sorted.{from_on}
use Rattle.btree_read.specs.Nodes.{Key, precedes, Node, HasNode, shown}
use Rattle.btree_read.specs.Tree.{Tree, page_of, entries_of, nodes_of, pages_in, Holds, Ordered, IsTree}

-- a page's reader sees the node that the page has, if it has one
abbrev pub Sees : PageMap → ℕ → PageView → Type 0
Sees pages page view = (node : Node) → HasNode pages page node → shown view ≡ node

-- the tree under a page, with keys from `lo` up to `hi`
pub record IsUnder (pages : PageMap) (page : ℕ) (d : ℕ) (t : Tree d) (lo : Key) (hi : Option Key) : Type 0 where
  pub at : page_of d t ≡ page
  pub holds : Holds pages (nodes_of d t)
  pub apart : Apart (pages_in (nodes_of d t))
  pub order : Ordered d lo hi t

-- no tree of at most so many levels above its leaves is under the page
abbrev pub HasNoTree : PageMap → ℕ → ℕ → Type 0
HasNoTree pages page levels = (d : ℕ) (t : Tree d) (lo : Key) (hi : Option Key) → d ≤ levels
    → IsUnder pages page d t lo hi → ⊥

-- how many branches begin at the key or before it, up to the first that does not
abbrev pub route_of : Key → List Branch → ℕ
route_of k [] = 0
route_of k (b ∷ bs) = if precedes k b.key then 0 else suc (route_of k bs)

-- the child at a place, where the leftmost one has no branch
abbrev pub child_at : ℕ → List Branch → ℕ → ℕ
child_at first [] at = first
child_at first (b ∷ bs) zero = first
child_at first (b ∷ bs) (suc at) = child_at b.child bs at

-- whatever tree is under the page, the answer is so of its entries
abbrev pub Answers : {A : Type 0} → PageMap → ℕ → (List Entry → A) → Result A SpaceError → Type 0
Answers pages page f result = (d : ℕ) (t : Tree d) (lo : Key) (hi : Option Key) → IsUnder pages page d t lo hi
    → IfOk result (λ a. a ≡ f (entries_of d t))

-- whatever tree is at the root, the answer is so of its entries
abbrev pub AnswersAt : {A : Type 0} → PageMap → ℕ → (List Entry → A) → Result A SpaceError → Type 0
AnswersAt pages root f result = (owned : List ℕ) (entries : List Entry) → IsTree pages root owned entries
    → IfOk result (λ a. a ≡ f entries)

-- no tree is at the root
abbrev pub IsNoTree : PageMap → ℕ → Type 0
IsNoTree pages root = (owned : List ℕ) (entries : List Entry) → IsTree pages root owned entries → ⊥

-- whatever tree is under the page: its entries from there on stand behind those that were there, as
-- far as there is room
abbrev pub TakesBelow : PageMap → ℕ → Start → Key → ℕ → List Entry → List Entry → Result ⊤ SpaceError → Type 0
TakesBelow pages page start k most was now result = (d : ℕ) (t : Tree d) (lo : Key) (hi : Option Key)
    → IsUnder pages page d t lo hi
    → OnOk result (now ≡ take most (was ++ from_on start k (entries_of d t)))
