-- The tables that a plan scans, where it reads nothing else.
use Rattle.std.specs.Prelude.{◌≡◌, ℕ, ◌+◌, Bool, true, ◌&&◌, List, [], ◌++◌, length, Contains, Option, IfSome}
use Rattle.std.specs.List.{sum_by}
use Rattle.algebra.specs.declared.tree.Tree.{Tree}
use Rattle.places.specs.Indexes.{sought_in}
use Rattle.places.specs.Left.{Entries}
use Rattle.plan_listings.specs.Loops.{loops_by_no_index}
use Rattle.streams.specs.Reads.{to_begin}
use Rattle.tree_tables.specs.TablesRead.{Names, tables_in_tree}

-- It reads each of these tables once for each time that its name stands there, and nothing besides.
pub record ScansTables (tree : Tree) (names : Names) : Type 0 where
  pub once : loops_by_no_index tree ≡ true
  pub unsought : sought_in tree ≡ []
  pub counts : (entries : Entries) → to_begin entries tree ≡ sum_by (λ name. length (entries name)) names
  pub named : (name : List ℕ) → Contains names name → Contains (tables_in_tree tree) name

abbrev pub Scans : Tree → Option Names → Type 0
Scans tree found = IfSome found (ScansTables tree)

-- a node that reads nothing itself, over one tree
pub record IsOver (tree below : Tree) : Type 0 where
  pub once : loops_by_no_index tree ≡ loops_by_no_index below
  pub unsought : sought_in tree ≡ sought_in below
  pub counts : (entries : Entries) → to_begin entries tree ≡ to_begin entries below
  pub named : (name : List ℕ) → Contains (tables_in_tree below) name → Contains (tables_in_tree tree) name

-- and over two
pub record IsMadeOf (tree left right : Tree) : Type 0 where
  pub once : loops_by_no_index tree ≡ (loops_by_no_index left && loops_by_no_index right)
  pub unsought : sought_in tree ≡ sought_in left ++ sought_in right
  pub counts : (entries : Entries) → to_begin entries tree ≡ to_begin entries left + to_begin entries right
  pub left_named : (name : List ℕ) → Contains (tables_in_tree left) name → Contains (tables_in_tree tree) name
  pub right_named : (name : List ℕ) → Contains (tables_in_tree right) name → Contains (tables_in_tree tree) name
