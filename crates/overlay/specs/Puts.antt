-- What a write of a page and of the header leaves.
use Rattle.std.specs.Prelude.{◌≡◌, ◌≢◌, ◌⊎◌, ℕ, ◌<◌, ◌+◌, List, Some, None, slice_index}
use Rattle.pagefile.specs.declared.header.FileHeader.{FileHeader}
use Rattle.pagefile.specs.Header.{IsHeader, IsInBounds}
use Rattle.pool.specs.Zeros.{EndsInZeros}
use Rattle.pagefile.specs.Free.{IsFree}
use Rattle.pool.specs.Pages.{PageMap, over, only}
use Rattle.overlay.specs.InUse.{in_use}
use Rattle.overlay.specs.Whole.{IsWritable}

-- both are there
pub record PutsBoth (page : ℕ) (bytes : List ℕ) (header : FileHeader) (old new : PageMap) : Type 0 where
  pub first : List ℕ
  pub says : IsHeader first header
  pub zeros : EndsInZeros first
  pub puts : new ≡ over (only 0 first) (over (only page bytes) old)

-- after a refusal: nothing is there, or the page alone
abbrev pub PutsAtMost : ℕ → List ℕ → PageMap → PageMap → Type 0
PutsAtMost page bytes old new = (new ≡ old) ⊎ (new ≡ over (only page bytes) old)

-- the header with another first free page
abbrev pub with_first_free : FileHeader → ℕ → FileHeader
with_first_free h page = record { page_count = h.page_count; first_free = page; catalog_root = h.catalog_root }

-- a page and the header were written, so that the page is free and the first of the list
pub record Freed (page : ℕ) (header : FileHeader) (old new : PageMap) : Type 0 where
  pub bytes : List ℕ
  pub free : IsFree bytes header.first_free
  pub both : PutsBoth page bytes (with_first_free header page) old new

-- a page that could be written was freed, over these pages
pub record Frees (pages : PageMap) (page : ℕ) (old new : PageMap) : Type 0 where
  pub header : FileHeader
  pub says : (first : List ℕ) → pages 0 ≡ Some first → IsHeader first header
  pub bounds : IsInBounds header
  pub some : 0 < page
  pub can : IsWritable pages page
  pub freed : Freed page header old new

-- nothing was written but this page
abbrev pub WritesAtMost : ℕ → PageMap → PageMap → Type 0
WritesAtMost page old new = (new ≡ old) ⊎ ((0 < page) × ((bytes : List ℕ) × (new ≡ over (only page bytes) old)))

-- the first free page can be taken: the header then names the next one
pub record TakesFirst (pages : PageMap) (header : FileHeader) (page : ℕ) (new : FileHeader) : Type 0 where
  pub first : header.first_free ≡ page
  pub count : new.page_count ≡ header.page_count
  pub free : (bytes : List ℕ) → pages page ≡ Some bytes → IsFree bytes new.first_free

-- none is free, and the page behind the last can be taken: the header then counts it
pub record TakesNew (header : FileHeader) (page : ℕ) (new : FileHeader) : Type 0 where
  pub none : header.first_free ≡ 0
  pub behind : page ≡ header.page_count
  pub count : new.page_count ≡ header.page_count + 1
  pub first : new.first_free ≡ 0

-- a page that is not in use can be taken, with the header that then says so
pub record Takes (version written : PageMap) (header : FileHeader) (page : ℕ) (new : FileHeader) : Type 0 where
  pub some : 0 < page
  pub unused : in_use version written page ≡ None
  pub counted : page < new.page_count
  pub bounds : IsInBounds new
  pub which : TakesFirst (over written version) header page new ⊎ TakesNew header page new

-- a page and the header were written, the page not as a free one
pub record PutsLeaf (page : ℕ) (new : FileHeader) (old next : PageMap) : Type 0 where
  pub bytes : List ℕ
  pub kind : slice_index bytes 0 ≢ 3
  pub both : PutsBoth page bytes new old next

-- nothing was written but this page
abbrev pub PutsLeafAtMost : ℕ → PageMap → PageMap → Type 0
PutsLeafAtMost page old new = (bytes : List ℕ) × PutsAtMost page bytes old new

-- a page that can be taken and the header were written
pub record Took (version written : PageMap) (page : ℕ) (next : PageMap) : Type 0 where
  pub header : FileHeader
  pub says : (first : List ℕ) → over written version 0 ≡ Some first → IsHeader first header
  pub bounds : IsInBounds header
  pub new : FileHeader
  pub takes : Takes version written header page new
  pub leaf : PutsLeaf page new written next

-- nothing was written but a page that is not in use
abbrev pub TookAtMost : PageMap → PageMap → PageMap → Type 0
TookAtMost version written next = (next ≡ written)
    ⊎ ((page : ℕ)
    × ((bytes : List ℕ)
    × ((0 < page) × (in_use version written page ≡ None) × (next ≡ over (only page bytes) written))))

-- the header with another root of the catalogue
abbrev pub with_root : FileHeader → ℕ → FileHeader
with_root h root = record { page_count = h.page_count; first_free = h.first_free; catalog_root = root }

-- page 0 was written with this header
pub record PutsHeader (header : FileHeader) (old new : PageMap) : Type 0 where
  pub first : List ℕ
  pub is : IsHeader first header
  pub zeros : EndsInZeros first
  pub puts : new ≡ over (only 0 first) old

-- page 0 has this root of the catalogue, below the page count: it had it, or was written so
pub record Rooted (pages : PageMap) (root : ℕ) (old new : PageMap) : Type 0 where
  pub header : FileHeader
  pub says : (first : List ℕ) → pages 0 ≡ Some first → IsHeader first header
  pub bounds : IsInBounds header
  pub below : root < header.page_count
  pub which : ((header.catalog_root ≡ root) × (new ≡ old)) ⊎ PutsHeader (with_root header root) old new
