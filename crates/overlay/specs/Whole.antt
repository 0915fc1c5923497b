-- Files whose list of free pages is one.
use Rattle.std.specs.Prelude.{◌≡◌, ◌≢◌, Bool, true, false, Option, ℕ, ◌+◌, ◌<◌, ◌≤◌, List, [], ◌∷◌, Some, None, IsSome, ⊤, ◌⊎◌, slice_index}
use Rattle.page_space.specs.declared.error.SpaceError.{SpaceError}
use Rattle.page_space.specs.declared.error.SpaceError.TheVariants.{Memory, Disk, Damaged, Pages, Private}
use Rattle.pagefile.specs.Number.{number_at}
use Rattle.pagefile.specs.declared.header.FileHeader.{FileHeader}
use Rattle.pagefile.specs.Header.{IsHeader, IsInBounds}
use Rattle.pool.specs.Zeros.{EndsInZeros}
use Rattle.pagefile.specs.Free.{IsFree}
use Rattle.pool.specs.Pages.{PageMap, over}

-- a number is among these
abbrev pub IsIn : ℕ → List ℕ → Type 0
IsIn n [] = ⊥
IsIn n (x ∷ xs) = (n ≡ x) ⊎ IsIn n xs

-- no number stands twice
abbrev pub AreApart : List ℕ → Type 0
AreApart [] = ⊤
AreApart (x ∷ xs) = (IsIn x xs → ⊥) × AreApart xs

-- a free page lies here, with the next one that it names
pub record FreeAt (pages : PageMap) (page : ℕ) : Type 0 where
  pub next : ℕ
  pub bytes : List ℕ
  pub there : pages page ≡ Some bytes
  pub free : IsFree bytes next

-- the free pages from this one on; 0 stands for none
abbrev pub IsFreeList : PageMap → ℕ → List ℕ → Type 0
IsFreeList pages first [] = first ≡ 0
IsFreeList pages first (p ∷ ps) = (first ≡ p) × (0 < p) × ((link : FreeAt pages p) × IsFreeList pages link.next ps)

-- each page from 1 to below this count that is of the kind free is among these
abbrev pub ListsAll : PageMap → ℕ → List ℕ → Type 0
ListsAll pages count free = (n : ℕ) (bytes : List ℕ) → 0 < n → n < count → pages n ≡ Some bytes
    → slice_index bytes 0 ≡ 3 → IsIn n free

-- Page 0 is this header with zeros behind it, and the free pages are a list in which none stands
-- twice. Each page below the page count is there, and none behind it. If the list is full, each
-- page of the kind free stands in it.
pub record HasFreeList (full : Bool) (pages : PageMap) (header : FileHeader) : Type 0 where
  pub first : List ℕ
  pub there : pages 0 ≡ Some first
  pub says : IsHeader first header
  pub zeros : EndsInZeros first
  pub bounds : IsInBounds header
  pub free : List ℕ
  pub listed : IsFreeList pages header.first_free free
  pub apart : AreApart free
  pub within : (n : ℕ) → IsIn n free → n < header.page_count
  pub all : (n : ℕ) → n < header.page_count → IsSome (pages n)
  pub ends : (n : ℕ) → header.page_count ≤ n → pages n ≡ None
  pub lists : full ≡ true → ListsAll pages header.page_count free

abbrev pub IsWholeFor : Bool → PageMap → Type 0
IsWholeFor full pages = (header : FileHeader) × HasFreeList full pages header

-- the list of free pages is one
abbrev pub IsWhole : PageMap → Type 0
IsWhole = IsWholeFor false

-- and each free page stands in it: none of them is lost
abbrev pub IsFull : PageMap → Type 0
IsFull = IsWholeFor true

-- with written pages over a version: the list is one, and where that of the version alone is full,
-- so is this one
pub record IsWholeOver (version written : PageMap) : Type 0 where
  pub whole : IsWhole (over written version)
  pub full : IsFull version → IsFull (over written version)

-- a page that is not free, and lies below the page count or is there
pub record IsWritable (pages : PageMap) (page : ℕ) : Type 0 where
  pub kind : (bytes : List ℕ) → pages page ≡ Some bytes → slice_index bytes 0 ≢ 3
  pub place : (first : List ℕ) → pages 0 ≡ Some first → pages page ≡ None → page < number_at first 8

-- page 0, where it is known, has the greatest page count and no free page
abbrev pub HasMostPages : Option (List ℕ) → Type 0
HasMostPages None = ⊤
HasMostPages (Some first) = (65536 ≤ number_at first 8) × (number_at first 12 ≡ 0)

-- the limit that a fault names is reached, with this page 0 and so many private pages
abbrev pub AtLimit : Option (List ℕ) → ℕ → SpaceError → Type 0
AtLimit first size Memory = ⊥
AtLimit first size Disk = ⊥
AtLimit first size Damaged = ⊥
AtLimit first size Pages = HasMostPages first
AtLimit first size Private = 1024 ≤ size

-- page 0 is this header, which is within its bounds
abbrev pub IsSaid : Option (List ℕ) → FileHeader → Type 0
IsSaid None header = ⊥
IsSaid (Some first) header = IsHeader first header × IsInBounds header

-- page 0, where it is known, ends in zeros
abbrev pub HasZeros : Option (List ℕ) → Type 0
HasZeros None = ⊤
HasZeros (Some first) = EndsInZeros first

-- A transaction that had not written page 0 took it with this version: the page that lies there
-- ends in zeros.
abbrev pub TakesZeros : PageMap → PageMap → Type 0
TakesZeros version written = written 0 ≡ None → HasZeros (version 0)

-- if the page 0 that the transaction had written ended in zeros, so does the one that it wrote
abbrev pub KeepsZeros : PageMap → PageMap → Type 0
KeepsZeros old new = HasZeros (old 0) → HasZeros (new 0)

-- page 0 is this header, which is within its bounds, and has zeros behind it
abbrev pub IsTakable : Option (List ℕ) → FileHeader → Type 0
IsTakable page header = IsSaid page header × HasZeros page

-- A page was put before the first of the list of free pages: page 0 names it, and it names the page
-- that page 0, where it was known, named before.
pub record IsFirstFree (old new : PageMap) (page : ℕ) : Type 0 where
  pub first : List ℕ
  pub there : new 0 ≡ Some first
  pub names : number_at first 12 ≡ page
  pub link : FreeAt new page
  pub next : (before : List ℕ) → old 0 ≡ Some before → link.next ≡ number_at before 12

-- A page was taken: page 0, where it was known, names as the first free page the one that the taken
-- page named, where that was the first, and none where it named none. Where a page was free the
-- page count is as it was, and otherwise one more.
pub record NamesRest (old new : PageMap) (page : ℕ) : Type 0 where
  pub first : List ℕ
  pub there : new 0 ≡ Some first
  pub rest : (before bytes : List ℕ) → old 0 ≡ Some before → number_at before 12 ≢ 0 → old page ≡ Some bytes
      → IsFree bytes (number_at first 12)
  pub none : (before : List ℕ) → old 0 ≡ Some before → number_at before 12 ≡ 0 → number_at first 12 ≡ 0
  pub same : (before : List ℕ) → old 0 ≡ Some before → number_at before 12 ≢ 0 → number_at first 8 ≡ number_at before 8
  pub more : (before : List ℕ) → old 0 ≡ Some before → number_at before 12 ≡ 0
      → number_at first 8 ≡ number_at before 8 + 1

-- page 0, where it is known, names this root of the catalogue
abbrev pub HasRoot : Option (List ℕ) → ℕ → Type 0
HasRoot None root = ⊤
HasRoot (Some first) root = number_at first 16 ≡ root

-- the page to be taken where page 0 is known: the first free one that it names, or the one behind
-- the last where it names none
abbrev pub IsNext : Option (List ℕ) → ℕ → Type 0
IsNext None page = ⊤
IsNext (Some first) page = (number_at first 12 ≢ 0 → page ≡ number_at first 12)
    × (number_at first 12 ≡ 0 → page ≡ number_at first 8)
