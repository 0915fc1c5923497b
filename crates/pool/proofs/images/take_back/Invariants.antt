use Rattle.std.proofs.Common.{◌≡◌, ◌≢◌, ◌<◌, ◌++◌, ◌∷◌, [], ℕ, false, List}
use Rattle.std.specs.Prelude.{slice_index}
use Rattle.pool.specs.declared.slot.OldImage.{OldImage}
use Rattle.pool.specs.Images.{covers}
use Rattle.pool.specs.Slots.{slot_at}
use Rattle.pool.proofs.images.take_back.Given as goal

abbrev pub invariant-loop-page : goal.invariant-loop-page
invariant-loop-page l = record {
  same : (n : ℕ) → covers l.last (slot_at l.fn.slots n).images ≡ false → (slot_at l.slots n).images ≡ (slot_at l.fn.slots n).images;
  taken : (k : ℕ) → k < l.page-index → (others : List OldImage) (image : OldImage) → l.last < image.until
      → (slot_at l.fn.slots (slice_index l.numbers k)).images ≡ others ++ image ∷ [] → (slot_at l.slots (slice_index l.numbers k)).images ≡ others;
  ahead : (n : ℕ) → ((k : ℕ) → k < l.page-index → slice_index l.numbers k ≢ n) → (slot_at l.slots n).images ≡ (slot_at l.fn.slots n).images;
}
