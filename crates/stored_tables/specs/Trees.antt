-- What entries lie under a page, whatever lies there. Our own choice.
use Rattle.std.specs.Prelude.{ℕ, zero, suc, ◌==◌, if◌then◌else◌, List, [], ◌∷◌, map, Option, None, Some, slice_index}
use Rattle.std.specs.List.{flat_map}
use Rattle.page_space.specs.Space.{PageMap}
use Rattle.sqlrecord.specs.Page.{cells_of, child_of, link_of}
use Rattle.btree_read.specs.declared.entry.Entry.{Entry}
use Rattle.btree_read.specs.Nodes.{entry_of}

-- those of a leaf, or those under the children of any other page
abbrev pub entries_in : (ℕ → List Entry) → Option (List ℕ) → List Entry
entries_in deeper None = []
entries_in deeper (Some bytes) =
    if slice_index bytes 0 == 1 then map entry_of (cells_of bytes) else flat_map deeper (link_of bytes ∷ map child_of (cells_of bytes))

-- through so many levels of pages
unfoldable pub entries_under : ℕ → PageMap → ℕ → List Entry
entries_under zero pages page = []
entries_under (suc levels) pages page = entries_in (entries_under levels pages) (pages page)

-- those of the tree at a root, none at root 0
abbrev pub entries_at : PageMap → ℕ → List Entry
entries_at pages root = if root == 0 then [] else entries_under 16 pages root
