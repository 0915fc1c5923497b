-- What a change of a tree's page, of the tree under a page, and of a whole tree leaves.
use Rattle.std.specs.Prelude.{◌≡◌, ℕ, ◌⊎◌, List, ◌∷◌, ◌++◌, map, take, Option, Some, None, IsSome, Result, IfOk}
use Rattle.std.specs.List.{flat_map}
use Rattle.std.specs.Option.{option_to_list}
use Rattle.page_space.specs.declared.error.SpaceError.{SpaceError}
use Rattle.page_space.specs.Space.{PageMap}
use Rattle.btree_read.specs.declared.entry.Entry.{Entry}
use Rattle.btree_read.specs.declared.entry.Branch.{Branch}
use Rattle.btree_read.specs.Lists.{Has, Apart, Leads}
use Rattle.btree_read.specs.Nodes.{Key, Node, LeafNode, InnerNode, HasNode}
use Rattle.btree_read.specs.Sorted.{put}
use Rattle.btree_read.specs.Tree.{Tree, page_of, branch_to, kids, entries_of, nodes_of, leaves_of, pages_in, Holds, Chain, Ordered, IsWithin}
use Rattle.btree_read.specs.Search.{IsUnder}

-- pages that are none of these are as they were
abbrev pub SamePages : PageMap → PageMap → (ℕ → Type 0) → Type 0
SamePages old new Own = (n : ℕ) → (Own n → ⊥) → new n ≡ old n

-- ---- one page

-- a leaf's entries are now in two leaves, the second one in a fresh page
pub record IsLeafCut (old new : PageMap) (page next : ℕ) (es : List Entry) (b : Branch) : Type 0 where
  pub x : Entry
  pub xs : List Entry
  pub y : Entry
  pub ys : List Entry
  pub parts : es ≡ (x ∷ xs) ++ y ∷ ys
  pub key : b.key ≡ y.key
  pub fresh : old b.child ≡ None
  pub left : HasNode new page (LeafNode b.child (x ∷ xs))
  pub right : HasNode new b.child (LeafNode next (y ∷ ys))
  pub others : SamePages old new (λ n. (n ≡ page) ⊎ (n ≡ b.child))

-- the page is a leaf of these entries, alone or with a second leaf behind it
abbrev pub LeafWritten : PageMap → PageMap → ℕ → ℕ → List Entry → Option Branch → Type 0
LeafWritten old new page next es None = HasNode new page (LeafNode next es) × SamePages old new (λ n. n ≡ page)
LeafWritten old new page next es (Some b) = IsLeafCut old new page next es b

-- an inner page's branches are now in two inner pages, but for one between them, whose child is the
-- second one's leftmost
pub record IsInnerCut (old new : PageMap) (page first : ℕ) (bs : List Branch) (b : Branch) : Type 0 where
  pub xs : List Branch
  pub y : Branch
  pub ys : List Branch
  pub parts : bs ≡ xs ++ y ∷ ys
  pub key : b.key ≡ y.key
  pub fresh : old b.child ≡ None
  pub left : HasNode new page (InnerNode first xs)
  pub right : HasNode new b.child (InnerNode y.child ys)
  pub others : SamePages old new (λ n. (n ≡ page) ⊎ (n ≡ b.child))

abbrev pub InnerWritten : PageMap → PageMap → ℕ → ℕ → List Branch → Option Branch → Type 0
InnerWritten old new page first bs None = HasNode new page (InnerNode first bs) × SamePages old new (λ n. n ≡ page)
InnerWritten old new page first bs (Some b) = IsInnerCut old new page first bs b

-- ---- the tree under a page

-- pages that were owned are owned still, and a page that is not owned now is as it was: none is
-- lost
pub record AreKept (old new : PageMap) (owned now_owned : List ℕ) : Type 0 where
  pub still : (n : ℕ) → Has n owned → Has n now_owned
  pub rest : (n : ℕ) → (Has n now_owned → ⊥) → new n ≡ old n

abbrev pub flat_nodes : (d : ℕ) → Tree d → List (Key × Tree d) → List (ℕ × Node)
flat_nodes d first rest = flat_map (nodes_of d) (kids first rest)

abbrev pub flat_leaves : (d : ℕ) → Tree d → List (Key × Tree d) → List (ℕ × ℕ)
flat_leaves d first rest = flat_map (leaves_of d) (kids first rest)

-- a tree is now one tree or two, with these entries, in its own pages and fresh ones; it is in
-- order within bounds that fit what was put in, and its leaves are linked from and to where they
-- were
pub record IsGrown (old new : PageMap) (d : ℕ) (t : Tree d) (Fits : Key → Option Key → Type 0) (now : List Entry) (split : Option Branch) : Type 0 where
  pub tree : Tree d
  pub more : List (Key × Tree d)
  pub told : map (branch_to d) more ≡ option_to_list split
  pub same : page_of d tree ≡ page_of d t
  pub holds : Holds new (flat_nodes d tree more)
  pub apart : Apart (pages_in (flat_nodes d tree more))
  pub own : (n : ℕ) → Has n (pages_in (flat_nodes d tree more)) → Has n (pages_in (nodes_of d t)) ⊎ (old n ≡ None)
  pub others : (n : ℕ) → (Has n (pages_in (nodes_of d t)) → ⊥) → IsSome (old n) → new n ≡ old n
  pub kept : AreKept old new (pages_in (nodes_of d t)) (pages_in (flat_nodes d tree more))
  pub order : (lo : Key) (hi : Option Key) → Ordered d lo hi t → Fits lo hi → Chain (Ordered d) lo hi tree more
  pub links : (from to : ℕ) → Leads from (leaves_of d t) to → Leads from (flat_leaves d tree more) to
  pub entries : flat_map (entries_of d) (kids tree more) ≡ now

-- whatever tree is under the page, the key is now put into it
abbrev pub GrowsBelow : PageMap → PageMap → ℕ → Key → List ℕ → Result (Option Branch) SpaceError → Type 0
GrowsBelow old new page k v result =
    (d : ℕ) (t : Tree d) (lo : Key) (hi : Option Key) → IsUnder old page d t lo hi
    → IfOk result (IsGrown old new d t (λ a b. IsWithin a b k) (put k v (entries_of d t)))

-- no bound is above the keys
abbrev pub IsUnbounded : Key → Option Key → Type 0
IsUnbounded lo hi = hi ≡ None

-- whatever tree is under the page, with no bound above its keys: so many of these entries now stand
-- behind all that it has
abbrev pub GrowsAtEnd : PageMap → PageMap → ℕ → List Entry → Result ℕ SpaceError → Type 0
GrowsAtEnd old new page more result =
    (d : ℕ) (t : Tree d) (lo : Key) → IsUnder old page d t lo None
    → IfOk result (λ count. IsGrown old new d t IsUnbounded (entries_of d t ++ take count more) None)
