-- The limit that pages which were undone had reached.
use Rattle.std.proofs.Common.{◌≡◌, ℕ, ◌≤◌, List, Option, Some, None, sym, subst}
use Rattle.page_space.specs.declared.error.SpaceError.{SpaceError}
use Rattle.page_space.specs.declared.error.SpaceError.TheVariants as fault
use Rattle.pool.specs.Pages.{PageMap, pick}
use Rattle.overlay.specs.Layers.{size_of}
use Rattle.overlay.specs.Undone.{Undone, AreUndone, AreMost, WasAtLimit, counts_in}
use Rattle.overlay.specs.Whole.{AtLimit, HasMostPages}

most : (written first : Option (List ℕ)) → HasMostPages (pick written first) → AreMost (pick (counts_in written) (counts_in first))
most (Some page) first h = h
most None (Some page) h = h
most None None h = tt

-- what was reached by pages is what is kept of them once they are undone
pub was_at_limit : (pages : PageMap) (first : Option (List ℕ)) (undone : Undone) (f : SpaceError) → AreUndone pages undone → AtLimit (pick (pages 0) first) (size_of pages) f → WasAtLimit first undone f
was_at_limit pages first undone fault.Memory u h = h
was_at_limit pages first undone fault.Disk u h = h
was_at_limit pages first undone fault.Damaged u h = h
was_at_limit pages first undone fault.Pages u h = subst (λ (c : Option (ℕ × ℕ)). AreMost (pick c (counts_in first))) (sym u.counts) (most (pages 0) first h)
was_at_limit pages first undone fault.Private u h = subst (λ (n : ℕ). 1024 ≤ n) (sym u.size) h
