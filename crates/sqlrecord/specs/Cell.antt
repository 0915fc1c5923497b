-- Cells as they are made.
use Rattle.std.specs.Prelude.{◌≡◌, ℕ, ◌+◌, List, length}
use Rattle.sqlrecord.specs.declared.kind.PageKind.TheVariants.{Leaf, Inner}
use Rattle.sqlrecord.specs.Page.{key_of, value_of, child_of, IsCell}

-- a leaf's cell of this key and value
pub record IsLeafCell (cell key value : List ℕ) : Type 0 where
  pub formed : IsCell Leaf cell
  pub key_is : key_of cell ≡ key
  pub value_is : value_of cell ≡ value
  pub size : length cell ≡ 2 + length key + length value

-- an inner page's cell of this key and child
pub record IsInnerCell (cell key : List ℕ) (child : ℕ) : Type 0 where
  pub formed : IsCell Inner cell
  pub key_is : key_of cell ≡ key
  pub child_is : child_of cell ≡ child
  pub size : length cell ≡ 2 + length key + 4
