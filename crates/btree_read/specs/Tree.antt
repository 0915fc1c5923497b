-- Trees over pages, all leaves of one depth, each page with its number. Our own choice.
use Rattle.std.specs.Prelude.{◌≡◌, ℕ, zero, suc, List, [], ◌∷◌, map, Option, Some, None, true, false, ⊤}
use Rattle.std.specs.List.{flat_map, AllByRecursion}
use Rattle.page_space.specs.Space.{PageMap}
use Rattle.btree_read.specs.declared.entry.Entry.{Entry}
use Rattle.btree_read.specs.Lists.{Apart, Leads}
use Rattle.btree_read.specs.declared.entry.Branch.{Branch}
use Rattle.btree_read.specs.Nodes.{Key, precedes, Node, LeafNode, InnerNode, HasNode}
use Rattle.btree_read.specs.Sorted.{Ascends}

pub record LeafAt : Type 0 where
  pub page : ℕ
  pub next : ℕ
  pub entries : List Entry

-- an inner page with its leftmost child, and the others each behind its key
pub record InnerAt (T : Type 0) : Type 0 where
  pub page : ℕ
  pub first : T
  pub rest : List (Key × T)

-- a tree with so many levels above its leaves
abbrev pub Tree : ℕ → Type 0
Tree zero = LeafAt
Tree (suc d) = InnerAt (Tree d)

abbrev pub page_of : (d : ℕ) → Tree d → ℕ
page_of zero t = t.page
page_of (suc d) t = t.page

abbrev pub branch_to : (d : ℕ) → Key × Tree d → Branch
branch_to d c = record { key = c.0; child = page_of d c.1 }

-- the children in order
abbrev pub kids : {T : Type 0} → T → List (Key × T) → List T
kids first rest = first ∷ map (λ c. c.1) rest

abbrev pub entries_of : (d : ℕ) → Tree d → List Entry
entries_of zero t = t.entries
entries_of (suc d) t = flat_map (entries_of d) (kids t.first t.rest)

-- the pages of a tree, each with its node
abbrev pub nodes_of : (d : ℕ) → Tree d → List (ℕ × Node)
nodes_of zero t = (t.page, LeafNode t.next t.entries) ∷ []
nodes_of (suc d) t = (t.page, InnerNode (page_of d t.first) (map (branch_to d) t.rest)) ∷ flat_map (nodes_of d) (kids t.first t.rest)

-- the leaves in order, each with the page that it names
abbrev pub leaves_of : (d : ℕ) → Tree d → List (ℕ × ℕ)
leaves_of zero t = (t.page, t.next) ∷ []
leaves_of (suc d) t = flat_map (leaves_of d) (kids t.first t.rest)

abbrev pub pages_in : List (ℕ × Node) → List ℕ
pages_in nodes = map (λ n. n.0) nodes

-- each of these pages has its node
abbrev pub Holds : PageMap → List (ℕ × Node) → Type 0
Holds pages nodes = AllByRecursion (λ n. HasNode pages n.0 n.1) nodes

-- ---- order: the keys under a child are from its key up to the next child's

abbrev pub IsBelow : Key → Option Key → Type 0
IsBelow k None = ⊤
IsBelow k (Some hi) = precedes k hi ≡ true

pub record IsWithin (lo : Key) (hi : Option Key) (k : Key) : Type 0 where
  pub low : precedes k lo ≡ false
  pub high : IsBelow k hi

-- a key that divides what is from `lo` up to `hi` in two
pub record Divides (lo : Key) (hi : Option Key) (s : Key) : Type 0 where
  pub low : precedes lo s ≡ true
  pub high : IsBelow s hi

pub record IsRising (lo : Key) (hi : Option Key) (es : List Entry) : Type 0 where
  pub within : AllByRecursion (λ e. IsWithin lo hi e.key) es
  pub ascends : Ascends es

abbrev pub Chain : {T : Type 0} → (Key → Option Key → T → Type 0) → Key → Option Key → T → List (Key × T) → Type 0
Chain P lo hi first [] = P lo hi first
Chain P lo hi first (c ∷ more) = Divides lo hi c.0 × P lo (Some c.0) first × Chain P c.0 hi c.1 more

abbrev pub Ordered : (d : ℕ) → Key → Option Key → Tree d → Type 0
Ordered zero lo hi t = IsRising lo hi t.entries
Ordered (suc d) lo hi t = Chain (Ordered d) lo hi t.first t.rest

-- ---- the tree at a root

-- the pages under `root` are a tree of these entries, in just the owned pages; the leaves name one
-- another in order, the last one names 0
pub record IsTreeOf (pages : PageMap) (root : ℕ) (owned : List ℕ) (entries : List Entry) : Type 0 where
  pub depth : ℕ
  pub tree : Tree depth
  pub at : page_of depth tree ≡ root
  pub holds : Holds pages (nodes_of depth tree)
  pub apart : Apart owned
  pub owns : pages_in (nodes_of depth tree) ≡ owned
  pub order : Ordered depth [] None tree
  pub leftmost : ℕ
  pub links : Leads leftmost (leaves_of depth tree) 0
  pub shows : entries_of depth tree ≡ entries

-- root 0 is the tree without entries, in no page
abbrev pub IsTree : PageMap → ℕ → List ℕ → List Entry → Type 0
IsTree pages zero owned entries = (owned ≡ []) × (entries ≡ [])
IsTree pages (suc r) owned entries = IsTreeOf pages (suc r) owned entries
