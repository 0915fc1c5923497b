-- A page of 4,096 bytes as a leaf or an inner node of a tree. Numbers are big-endian. Our own
--   choice: 0 the kind, 1 leaf, 2 inner; 1 a zero; 2 to 3 the number of slots; 4 to 5 the lowest
--   byte used by a cell, 4,096 if none; 6 to 7 zeros; 8 to 11 the link: a leaf's next leaf or 0, an
--   inner page's leftmost child; 12 to 15 zeros; from 16 on the slots, each the offset of a cell in
--   two bytes and its length in two bytes.
use Rattle.std.specs.Prelude.{◌≡◌, ℕ, zero, suc, ◌+◌, ◌*◌, ◌<◌, ◌≤◌, min, max, List, [], ◌∷◌, ◌++◌, length, drop, slice_index, slice_index_or, slice_range, IsTrue}
use Rattle.std.specs.Int.{w32, from_be_bytes}
use Rattle.std.specs.Ordering.{is_lt}
use Rattle.sqlrecord.specs.declared.kind.PageKind.{PageKind}
use Rattle.sqlrecord.specs.declared.kind.PageKind.TheVariants.{Leaf, Inner}
use Rattle.sqlrecord.specs.Key.{byte_order}

-- the number in two bytes, and in four
abbrev pub two_at : List ℕ → ℕ → ℕ
two_at bytes at = 256 * slice_index bytes at + slice_index bytes (at + 1)

abbrev pub four_at : List ℕ → ℕ → ℕ
four_at bytes at = from_be_bytes w32 (slice_index bytes at ∷ slice_index bytes (at + 1) ∷ slice_index bytes (at + 2) ∷ slice_index bytes (at + 3) ∷ [])

abbrev pub kind_byte : PageKind → ℕ
kind_byte Leaf = 1
kind_byte Inner = 2

abbrev pub count_of : List ℕ → ℕ
count_of page = two_at page 2

abbrev pub link_of : List ℕ → ℕ
link_of page = four_at page 8

-- where the cell of a slot begins, how long it is, and its bytes
abbrev pub offset_of : List ℕ → ℕ → ℕ
offset_of page i = two_at page (16 + 4 * i)

abbrev pub length_of : List ℕ → ℕ → ℕ
length_of page i = two_at page (18 + 4 * i)

abbrev pub cell_of : List ℕ → ℕ → List ℕ
cell_of page i = slice_range page (offset_of page i) (offset_of page i + length_of page i)

-- the cells of the first slots, and of all of them
abbrev pub cells_upto : List ℕ → ℕ → List (List ℕ)
cells_upto page zero = []
cells_upto page (suc i) = cells_upto page i ++ cell_of page i ∷ []

unfoldable pub cells_of : List ℕ → List (List ℕ)
cells_of page = cells_upto page (count_of page)

-- the least offset of the first slots, 4,096 if there are none
abbrev pub lowest_of : List ℕ → ℕ → ℕ
lowest_of page zero = 4096
lowest_of page (suc i) = min (lowest_of page i) (offset_of page i)

-- a cell: the key's length in two bytes, the key, and a leaf's value or an inner page's child in
-- four bytes
abbrev pub key_length_of : List ℕ → ℕ
key_length_of cell = two_at cell 0

abbrev pub key_of : List ℕ → List ℕ
key_of cell = slice_range cell 2 (2 + key_length_of cell)

abbrev pub value_of : List ℕ → List ℕ
value_of cell = drop (2 + key_length_of cell) cell

abbrev pub child_of : List ℕ → ℕ
child_of cell = four_at (value_of cell) 0

pub record IsCell (kind : PageKind) (cell : List ℕ) : Type 0 where
  pub has_key : 2 + key_length_of cell ≤ length cell
  pub has_child : kind ≡ Inner → 2 + key_length_of cell + 4 ≡ length cell

-- cells of this kind, their keys strictly rising
pub record AreCells (kind : PageKind) (cells : List (List ℕ)) : Type 0 where
  pub formed : (i : ℕ) → i < length cells → IsCell kind (slice_index_or cells i [])
  pub rising : (i : ℕ) → i + 1 < length cells
      → IsTrue (is_lt (byte_order (key_of (slice_index_or cells i [])) (key_of (slice_index_or cells (i + 1) []))))

-- the fixed fields
pub record HasHead (page : List ℕ) (kind : PageKind) : Type 0 where
  pub is_kind : slice_index page 0 ≡ kind_byte kind
  pub zero_behind_kind : slice_index page 1 ≡ 0
  pub zeros_behind_low : two_at page 6 ≡ 0
  pub zeros_behind_link : four_at page 12 ≡ 0

-- the slots lie in the page, and each cell in it behind them
pub record HasSlots (page : List ℕ) : Type 0 where
  pub room : 16 + 4 * count_of page ≤ 4096
  pub behind : (i : ℕ) → i < count_of page → 16 + 4 * count_of page ≤ offset_of page i
  pub within : (i : ℕ) → i < count_of page → offset_of page i + length_of page i ≤ 4096

-- two cells do not overlap: the end of one is not behind the beginning of the other
abbrev pub AreApart : List ℕ → ℕ → ℕ → Type 0
AreApart page i j = min (offset_of page i + length_of page i) (offset_of page j + length_of page j) ≤ max (offset_of page i) (offset_of page j)

abbrev pub IsApart : List ℕ → Type 0
IsApart page = (i j : ℕ) → i < j → j < count_of page → AreApart page i j

-- a page of this kind, not damaged
pub record IsSound (page : List ℕ) (kind : PageKind) : Type 0 where
  pub head : HasHead page kind
  pub slots : HasSlots page
  pub apart : IsApart page
  pub low : two_at page 4 ≡ lowest_of page (count_of page)
  pub cells : AreCells kind (cells_of page)

-- sound, of the kind that the page's first byte says, if it says one
abbrev pub IsNode : List ℕ → Type 0
IsNode page = (kind : PageKind) → slice_index page 0 ≡ kind_byte kind → IsSound page kind

-- what a page is to its readers
pub record PageView : Type 0 where
  pub kind : PageKind
  pub link : ℕ
  pub cells : List (List ℕ)

-- what a page's reader relies on
pub record IsReadable (page : List ℕ) (kind : PageKind) : Type 0 where
  pub size : length page ≡ 4096
  pub slots : HasSlots page
  pub cells : AreCells kind (cells_of page)
