-- The pages of a tree as nodes. Our own choice.
use Rattle.std.specs.Prelude.{◌≡◌, ◌≢◌, ℕ, ◌+◌, ◌≤◌, List, [], length, map, Some, Bool}
use Rattle.std.specs.List.{AllByRecursion, flat_map}
use Rattle.std.specs.Ordering.{is_lt}
use Rattle.page_space.specs.Space.{PageMap}
use Rattle.sqlrecord.specs.declared.kind.PageKind.{PageKind}
use Rattle.sqlrecord.specs.declared.kind.PageKind.TheVariants.{Leaf, Inner}
use Rattle.sqlrecord.specs.Key.{byte_order}
use Rattle.sqlrecord.specs.Page.{key_of, value_of, child_of, link_of, cells_of, IsSound, PageView}
use Rattle.btree_read.specs.declared.entry.Entry.{Entry}
use Rattle.btree_read.specs.declared.entry.Branch.{Branch}

abbrev pub Key : Type 0
Key = List ℕ

-- the order of keys, byte by byte
unfoldable pub precedes : Key → Key → Bool
precedes a b = is_lt (byte_order a b)

-- a leaf with the page of the next leaf, or an inner page with the page of its leftmost child
pub data Node : Type 0 where
  LeafNode : (next : ℕ) (entries : List Entry) → Node
  InnerNode : (first : ℕ) (branches : List Branch) → Node

abbrev pub entry_of : List ℕ → Entry
entry_of cell = record { key = key_of cell; value = value_of cell }

-- the entries of leaves' cells, one leaf after another
abbrev pub entries_in : List (List (List ℕ)) → List Entry
entries_in leaves = flat_map (λ (cells : List (List ℕ)). map entry_of cells) leaves

abbrev pub branch_of : List ℕ → Branch
branch_of cell = record { key = key_of cell; child = child_of cell }

abbrev pub node_of : PageKind → ℕ → List (List ℕ) → Node
node_of Leaf link cells = LeafNode link (map entry_of cells)
node_of Inner link cells = InnerNode link (map branch_of cells)

-- what a page's reader sees, as a node
abbrev pub shown : PageView → Node
shown view = node_of view.kind view.link view.cells

-- an entry whose cell takes at most 1,014 bytes of a page with its slot, and a key of at most 600
pub record IsSmall (entry : Entry) : Type 0 where
  pub key : length entry.key ≤ 600
  pub cell : 6 + length entry.key + length entry.value ≤ 1014

abbrev pub IsSmallBranch : Branch → Type 0
IsSmallBranch branch = length branch.key ≤ 600

-- no page of a tree is without cells, and none of its cells is greater than that
abbrev pub IsStocked : Node → Type 0
IsStocked (LeafNode next entries) = (entries ≢ []) × AllByRecursion IsSmall entries
IsStocked (InnerNode first branches) = (branches ≢ []) × AllByRecursion IsSmallBranch branches

-- a page has this node
pub record HasNode (pages : PageMap) (page : ℕ) (node : Node) : Type 0 where
  pub bytes : List ℕ
  pub kind : PageKind
  pub there : pages page ≡ Some bytes
  pub sound : IsSound bytes kind
  pub shows : node_of kind (link_of bytes) (cells_of bytes) ≡ node
  pub stocked : IsStocked node
