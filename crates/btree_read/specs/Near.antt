-- A leaf that is kept from one search to the next.
use Rattle.std.specs.Prelude.{◌≡◌, ℕ, List, ◌++◌, map, Option, Some, None, ⊤}
use Rattle.page_space.specs.Space.{PageMap}
use Rattle.btree_read.specs.declared.entry.Entry.{Entry}
use Rattle.btree_read.specs.declared.near.LastLeaf.{LastLeaf}
use Rattle.btree_read.specs.Nodes.{Key, entry_of}
use Rattle.btree_read.specs.Tree.{Tree, entries_of, IsTree}
use Rattle.btree_read.specs.Search.{IsUnder}

-- a list stands in another, its elements side by side
pub record StandsIn (part whole : List Entry) : Type 0 where
  pub before : List Entry
  pub behind : List Entry
  pub parts : whole ≡ before ++ (part ++ behind)

-- the entries of a leaf with these cells, if there is one, stand in others
abbrev pub IsPartOf : List Entry → Option (List (List ℕ)) → Type 0
IsPartOf entries None = ⊤
IsPartOf entries (Some cells) = StandsIn (map entry_of cells) entries

-- whatever tree is at the root: the leaf that is kept, if there is one, is a part of it
abbrev pub LiesIn : PageMap → ℕ → LastLeaf → Type 0
LiesIn pages root last = (owned : List ℕ) (entries : List Entry) → IsTree pages root owned entries
    → IsPartOf entries last.cells

-- in whatever list these entries stand: the leaf that is kept is still a part of it
abbrev pub StaysIn : List Entry → LastLeaf → LastLeaf → Type 0
StaysIn part was now = (entries : List Entry) → StandsIn part entries → IsPartOf entries was.cells
    → IsPartOf entries now.cells

-- the same, of the entries of whatever tree is under a page
abbrev pub StaysBelow : PageMap → ℕ → LastLeaf → LastLeaf → Type 0
StaysBelow pages page was now = (d : ℕ) (t : Tree d) (lo : Key) (hi : Option Key) → IsUnder pages page d t lo hi
    → StaysIn (entries_of d t) was now
