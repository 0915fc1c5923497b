-- A commit over the newest versions.
use Rattle.std.proofs.Common.{◌≡◌, ℕ, ◌+◌, true, false, List, Option, Some, None, refl, sym, ap, ◌∙◌, IsSome, rules}
use Rattle.pool.specs.declared.slot.Slot.{Slot}
use Rattle.pool.specs.Pages.{PageMap, pick, over}
use Rattle.pool.specs.Images.{covers}
use Rattle.pool.specs.Slots.{seen, slot_at, pages_at}
use Rattle.pool.proofs.SlotLemmas.{covered, reads_now}

module _ (newest now set : PageMap) (last : ℕ) (was slots : List Slot) (put : (n : ℕ) → now n ≡ over set newest n) where
  -- the new version
  pub written : ((n : ℕ) → covers last (slot_at was n).images ≡ false) → ((n : ℕ) → covers (last + 1) (slot_at slots n).images ≡ false)
      → (n : ℕ) → pages_at now slots (last + 1) n ≡ pick (set n) (pages_at newest was last n)
  written old later n =
      reads_now (last + 1) (slot_at slots n).images (later n) (now n) ∙ put n
      ∙ ap (pick (set n)) (sym (reads_now last (slot_at was n).images (old n) (newest n)))

  unchanged : (o : Option (List ℕ)) (n c : ℕ) → (IsSome o → covers c (slot_at slots n).images ≡ true)
      → seen c (slot_at slots n).images (pick o (newest n)) ≡ seen c (slot_at slots n).images (newest n)
  unchanged (Some p) n c covers_it = covered c (slot_at slots n).images (covers_it (search rules)) _ _
  unchanged None n c covers_it = refl

  -- and those that read an image of each page that is replaced
  pub others_kept : (c : ℕ) → ((n : ℕ) → IsSome (set n) → covers c (slot_at slots n).images ≡ true) → (n : ℕ) → pages_at now slots c n ≡ pages_at newest slots c n
  others_kept c covers_it n = ap (seen c (slot_at slots n).images) (put n) ∙ unchanged (set n) n c (covers_it n)
