-- The old images of pages, and what a commit's number shows through them.
use Rattle.std.specs.Prelude.{ℕ, nat_lt, List, [], ◌∷◌, Option, if◌then◌else◌, slice_index_or}
use Rattle.pool.specs.declared.slot.OldImage.{OldImage}
use Rattle.pool.specs.declared.slot.Slot.{Slot}
use Rattle.pool.specs.Pages.{PageMap}

-- a page at the commit c: its first image from before a later commit than c, or else its newest
-- version
abbrev pub seen : ℕ → List OldImage → Option (List ℕ) → Option (List ℕ)
seen c [] newest = newest
seen c (o ∷ os) newest = if nat_lt c o.until then o.page else seen c os newest

abbrev pub empty_slot : Slot
empty_slot = record { images = [] }

abbrev pub slot_at : List Slot → ℕ → Slot
slot_at slots n = slice_index_or slots n empty_slot

-- the pages at a commit, by the newest versions
abbrev pub pages_at : PageMap → List Slot → ℕ → PageMap
pages_at newest slots c n = seen c (slot_at slots n).images (newest n)
