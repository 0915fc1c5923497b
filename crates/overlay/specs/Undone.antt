-- What is kept of the pages that were undone last. Our own choice.
use Rattle.std.specs.Prelude.{◌≡◌, ℕ, ◌≤◌, List, Option, Some, None, ⊤}
use Rattle.page_space.specs.declared.error.SpaceError.{SpaceError}
use Rattle.page_space.specs.declared.error.SpaceError.TheVariants.{Memory, Disk, Damaged, Pages, Private}
use Rattle.pagefile.specs.Number.{number_at}
use Rattle.pool.specs.Pages.{PageMap, pick}
use Rattle.overlay.specs.Layers.{size_of}

-- the page count and the first free page that a page 0 says
abbrev pub counts_in : Option (List ℕ) → Option (ℕ × ℕ)
counts_in None = None
counts_in (Some first) = Some (number_at first 8, number_at first 12)

-- how many pages had been written, and what page 0 said, where it was one of them
pub record Undone : Type 0 where
  pub size : ℕ
  pub counts : Option (ℕ × ℕ)

-- no pages were undone yet
abbrev pub none_undone : Undone
none_undone = record { size = 0; counts = None }

-- these pages were undone
pub record AreUndone (pages : PageMap) (undone : Undone) : Type 0 where
  pub size : undone.size ≡ size_of pages
  pub counts : undone.counts ≡ counts_in (pages 0)

-- 65,536 pages and no free one
abbrev pub AreMost : Option (ℕ × ℕ) → Type 0
AreMost None = ⊤
AreMost (Some counts) = (65536 ≤ counts.0) × (counts.1 ≡ 0)

-- The pages that were undone last had reached the limit that a fault names, over a version with
-- this page 0: there were 1,024, or page 0, where it is known, had the greatest page count and no
-- free page.
abbrev pub WasAtLimit : Option (List ℕ) → Undone → SpaceError → Type 0
WasAtLimit first undone Memory = ⊥
WasAtLimit first undone Disk = ⊥
WasAtLimit first undone Damaged = ⊥
WasAtLimit first undone Pages = AreMost (pick undone.counts (counts_in first))
WasAtLimit first undone Private = 1024 ≤ undone.size
