use Rattle.std.proofs.Common.{◌≡◌, ◌≤◌, ◌==◌, ℕ, true, false, take}
use Rattle.std.specs.List.{list_any}
use Rattle.pool.specs.Images.{covers, images_in, pinned_in, AreNeeded}
use Rattle.pool.specs.Ready.{KeepsSeen}
use Rattle.pool.specs.Slots.{slot_at}
use Rattle.pool.proofs.images.drop_pages.Given as goal

abbrev pub invariant-loop-page : goal.invariant-loop-page
invariant-loop-page l = record {
  count : l.count ≡ images_in l.slots;
  fewer : l.count ≤ l.fn.count;
  shown : (n : ℕ) → KeepsSeen l.pins (slot_at l.fn.slots n).images (slot_at l.slots n).images;
  covers : (n c : ℕ) → covers c (slot_at l.slots n).images ≡ true → covers c (slot_at l.fn.slots n).images ≡ true;
  needed : (n : ℕ) → list_any (λ m. m == n) (take l.page-index l.pages) ≡ true → AreNeeded (pinned_in l.pins) (slot_at l.slots n).images;
  others : (n : ℕ) → list_any (λ m. m == n) (take l.page-index l.pages) ≡ false → (slot_at l.slots n).images ≡ (slot_at l.fn.slots n).images;
}
