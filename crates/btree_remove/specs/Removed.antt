-- What is left where an entry was taken out of a tree.
use Rattle.std.specs.Prelude.{◌≡◌, ◌≢◌, ℕ, zero, suc, ◌+◌, ◌<◌, ◌≤◌, ◌⊎◌, List, [], ◌∷◌, ◌++◌, map, length, Option, Some, None, IsSome, IfSome, Result, IfOk, ⊤}
use Rattle.std.specs.List.{flat_map}
use Rattle.std.specs.Option.{option_to_list}
use Rattle.page_space.specs.declared.error.SpaceError.{SpaceError}
use Rattle.page_space.specs.Space.{PageMap}
use Rattle.sqlrecord.specs.Page.{PageView}
use Rattle.btree_read.specs.declared.entry.Entry.{Entry}
use Rattle.btree_read.specs.declared.entry.Branch.{Branch}
use Rattle.btree_read.specs.Lists.{Has, Apart, Leads}
use Rattle.btree_read.specs.Nodes.{Key, Node, LeafNode, InnerNode, HasNode, IsSmallBranch, branch_of}
use Rattle.btree_read.specs.Sorted.{get_of}
use Rattle.btree_read.specs.Tree.{Tree, page_of, branch_to, kids, entries_of, nodes_of, pages_in, Holds, Chain, Ordered, IsTree}
use Rattle.btree_read.specs.Search.{Sees, IsUnder, child_at, route_of}
use Rattle.btree.specs.Grow.{SamePages, InnerWritten, flat_nodes, flat_leaves}
use Rattle.btree_remove.specs.declared.outcome.Removed.{Removed}
use Rattle.btree_remove.specs.declared.outcome.Removed.TheVariants.{Absent, Done, Emptied, Lone}
use Rattle.btree_remove.specs.declared.pair.Pair.{Pair}

-- one entry, of this key, is gone, and the others stand as they stood
pub record IsLess (k : Key) (was now : List Entry) : Type 0 where
  pub before : List Entry
  pub value : List ℕ
  pub after : List Entry
  pub parts : was ≡ before ++ record { key = k; value = value } ∷ after
  pub left : now ≡ before ++ after

-- ---- one page

-- the entries of a leaf without the one of a key; of its last one the leaf keeps what it had
abbrev pub LeafLess : PageMap → PageMap → ℕ → ℕ → List Entry → Key → Removed → Type 0
LeafLess old new page next es k Absent = (get_of k es ≡ None) × (new ≡ old)
LeafLess old new page next es k (Done None) = (left : List Entry) × IsLess k es left
    × HasNode new page (LeafNode next left) × SamePages old new (λ n. n ≡ page)
LeafLess old new page next es k (Done (Some b)) = ⊥
LeafLess old new page next es k Emptied = IsLess k es [] × (new ≡ old)
LeafLess old new page next es k (Lone only) = ⊥

-- the first page is a leaf of these entries, and the second one is free
pub record AreLeavesJoined (old new : PageMap) (left right next : ℕ) (es : List Entry) : Type 0 where
  pub node : HasNode new left (LeafNode next es)
  pub gone : new right ≡ None
  pub others : SamePages old new (λ n. (n ≡ left) ⊎ (n ≡ right))

-- an inner page has these branches, alone or with a second page; where it would have none it is as
-- it was, and keeps but its leftmost child
abbrev pub Rewritten : PageMap → PageMap → ℕ → ℕ → List Branch → Removed → Type 0
Rewritten old new page first [] removed = (removed ≡ Lone first) × (new ≡ old)
Rewritten old new page first (b ∷ bs) removed = (split : Option Branch) × (removed ≡ Done split)
    × InnerWritten old new page first (b ∷ bs) split

-- the second page is given back, and the first one then has these branches, alone or with another
-- page
pub record AreInnersJoined (old new : PageMap) (left right first : ℕ) (bs : List Branch) (split : Option Branch) : Type 0 where
  pub mid : PageMap
  pub freed : mid right ≡ None
  pub kept : SamePages old mid (λ n. n ≡ right)
  pub written : InnerWritten mid new left first bs split

-- two neighbouring children, one of which stands at this place, and the page of the other one
pub record IsPairAt (first : ℕ) (bs : List Branch) (at : ℕ) (pair : Pair) : Type 0 where
  pub within : pair.place + 1 ≤ length bs
  pub left : pair.left ≡ child_at first bs pair.place
  pub right : pair.right ≡ child_at first bs (pair.place + 1)
  pub kept : ((at ≡ pair.place) × (pair.kept ≡ pair.right)) ⊎ ((at ≡ pair.place + 1) × (pair.kept ≡ pair.left))

-- ---- neighbouring trees

-- the pages of one list of nodes are now those of another one: its own, fresh ones, and what is
-- left of the first list is free; no other page has changed
pub record AreExchanged (old new : PageMap) (was now : List (ℕ × Node)) : Type 0 where
  pub holds : Holds new now
  pub apart : Apart (pages_in now)
  pub own : (n : ℕ) → Has n (pages_in now) → Has n (pages_in was) ⊎ (old n ≡ None)
  pub gone : (n : ℕ) → Has n (pages_in was) → (Has n (pages_in now) → ⊥) → new n ≡ None
  pub others : (n : ℕ) → (Has n (pages_in was) → ⊥) → (Has n (pages_in now) → ⊥) → new n ≡ old n

abbrev pub flat_entries : (d : ℕ) → Tree d → List (Key × Tree d) → List Entry
flat_entries d first rest = flat_map (entries_of d) (kids first rest)

-- neighbouring trees are now others, without the entry of a key, with the first one's page, in
-- order and linked as those were
pub record AreChanged (old new : PageMap) (d : ℕ) (first : Tree d) (rest : List (Key × Tree d)) (tree : Tree d) (more : List (Key × Tree d)) (k : Key) : Type 0 where
  pub same : page_of d tree ≡ page_of d first
  pub pages : AreExchanged old new (flat_nodes d first rest) (flat_nodes d tree more)
  pub order : (lo : Key) (hi : Option Key) → Chain (Ordered d) lo hi first rest → Chain (Ordered d) lo hi tree more
  pub links : (from to : ℕ) → Leads from (flat_leaves d first rest) to → Leads from (flat_leaves d tree more) to
  pub entries : IsLess k (flat_entries d first rest) (flat_entries d tree more)

-- ---- the tree under a page

-- neighbouring trees are now one, without the entry of a key, or two
pub record AreShrunk (old new : PageMap) (d : ℕ) (first : Tree d) (rest : List (Key × Tree d)) (k : Key) (split : Option Branch) : Type 0 where
  pub tree : Tree d
  pub more : List (Key × Tree d)
  pub told : map (branch_to d) more ≡ option_to_list split
  pub changed : AreChanged old new d first rest tree more k

-- the children of an inner page are now but one tree, under this page
pub record AreOne (old new : PageMap) (d : ℕ) (t : Tree (suc d)) (k : Key) (only : ℕ) : Type 0 where
  pub tree : Tree d
  pub at : page_of d tree ≡ only
  pub changed : AreChanged old new d t.first t.rest tree [] k

-- the entry of the key is a leaf's only one
abbrev pub IsEmptied : (d : ℕ) → Tree d → Key → Type 0
IsEmptied zero t k = IsLess k t.entries []
IsEmptied (suc d) t k = ⊥

abbrev pub IsLone : PageMap → PageMap → (d : ℕ) → Tree d → Key → ℕ → Type 0
IsLone old new zero t k only = ⊥
IsLone old new (suc d) t k only = AreOne old new d t k only

abbrev pub IsTaken : PageMap → PageMap → (d : ℕ) → Tree d → Key → Removed → Type 0
IsTaken old new d t k Absent = (get_of k (entries_of d t) ≡ None) × (new ≡ old)
IsTaken old new d t k (Done split) = AreShrunk old new d t [] k split
IsTaken old new d t k Emptied = IsEmptied d t k × (new ≡ old)
IsTaken old new d t k (Lone only) = IsLone old new d t k only

-- whatever tree is under the page, the entry is taken out of it
abbrev pub TakesBelow : PageMap → PageMap → ℕ → Key → Result Removed SpaceError → Type 0
TakesBelow old new page k result = (d : ℕ) (t : Tree d) (lo : Key) (hi : Option Key) → IsUnder old page d t lo hi
    → IfOk result (IsTaken old new d t k)

-- the key of a second tree is a small one
abbrev pub IsSmallOutcome : Removed → Type 0
IsSmallOutcome Absent = ⊤
IsSmallOutcome (Done split) = IfSome split IsSmallBranch
IsSmallOutcome Emptied = ⊤
IsSmallOutcome (Lone only) = ⊤

-- ---- an inner page behind a removal under one of its children

-- the child at a place, the leftmost one at 0
abbrev pub kid : {T : Type 0} → T → List (Key × T) → ℕ → T
kid first [] at = first
kid first (c ∷ rest) zero = first
kid first (c ∷ rest) (suc at) = kid c.1 rest at

-- this is left of the child at a place on the key's way, of the tree that was under the page
pub record IsLeftBelow (before old : PageMap) (page : ℕ) (view : PageView) (at : ℕ) (below : Removed) (k : Key) (d : ℕ) (t : Tree (suc d)) (lo : Key) (hi : Option Key) : Type 0 where
  pub sees : Sees before page view
  pub under : IsUnder before page (suc d) t lo hi
  pub way : route_of k (map branch_of view.cells) ≡ at
  pub taken : IsTaken before old d (kid t.first t.rest at) k below

-- whatever tree was under the page before the removal under the child, the entry is now taken out
-- of it
abbrev pub Settles : PageMap → PageMap → ℕ → PageView → ℕ → Removed → Result Removed SpaceError → Type 0
Settles old new page view at below result =
    (before : PageMap) (k : Key) (d : ℕ) (t : Tree (suc d)) (lo : Key) (hi : Option Key)
    → IsLeftBelow before old page view at below k d t lo hi → IfOk result (IsTaken before new (suc d) t k)

-- no tree was under the page from which this is left below it, or the space is not whole
abbrev pub CannotSettle : PageMap → ℕ → PageView → ℕ → Removed → Type 0 → Type 0
CannotSettle old page view at below Whole =
    (before : PageMap) (k : Key) (d : ℕ) (t : Tree (suc d)) (lo : Key) (hi : Option Key)
    → IsLeftBelow before old page view at below k d t lo hi → Whole → ⊥

-- ---- the tree at a root

-- a page that was not in use is now a root over two trees
pub record IsRootOver (old new : PageMap) (first : ℕ) (b : Branch) (page : ℕ) : Type 0 where
  pub some : 0 < page
  pub fresh : old page ≡ None
  pub node : HasNode new page (InnerNode first (b ∷ []))
  pub others : SamePages old new (λ n. n ≡ page)

-- at the root is now a tree without the entry of a key, in pages that the tree owned before or that
-- were not in use; those that it owns no more are free, and no other page has changed
pub record IsRemoved (old new : PageMap) (owned : List ℕ) (entries : List Entry) (k : Key) (root : ℕ) : Type 0 where
  pub now_owned : List ℕ
  pub now_entries : List Entry
  pub stored : IsTree new root now_owned now_entries
  pub less : IsLess k entries now_entries
  pub own : (n : ℕ) → Has n now_owned → Has n owned ⊎ (old n ≡ None)
  pub gone : (n : ℕ) → Has n owned → (Has n now_owned → ⊥) → new n ≡ None
  pub others : (n : ℕ) → (Has n owned → ⊥) → (Has n now_owned → ⊥) → new n ≡ old n

-- the answer is the root of the tree without the entry, or that there is none
abbrev pub Outcome : PageMap → PageMap → List ℕ → List Entry → Key → Option ℕ → Type 0
Outcome old new owned entries k None = (get_of k entries ≡ None) × (new ≡ old)
Outcome old new owned entries k (Some root) = IsRemoved old new owned entries k root

-- whatever tree is at the root, the entry is taken out of it
abbrev pub Removes : PageMap → PageMap → ℕ → Key → Result (Option ℕ) SpaceError → Type 0
Removes old new root k result = (owned : List ℕ) (entries : List Entry) → IsTree old root owned entries
    → IfOk result (Outcome old new owned entries k)
