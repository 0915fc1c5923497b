use Rattle.std.proofs.Common.{◌≡◌, ℕ, ◌<◌, ◌==◌, true, false, [], length}
use Rattle.std.specs.Prelude.{slice_index_or}
use Rattle.std.specs.List.{list_any}
use Rattle.pool.specs.Images.{covers, pinned_in}
use Rattle.pool.specs.Ready.{Grows}
use Rattle.pool.proofs.images.note.Given as goal

abbrev pub invariant-loop-pin : goal.invariant-loop-pin
invariant-loop-pin l = record {
  place : l.place ≡ l.pin-index;
  grows : Grows l.fn.touched l.touched;
  noted : (k : ℕ) → k < l.pin-index → covers (slice_index_or (pinned_in l.pins) k 0) l.images ≡ false → list_any (λ m. m == l.page) (slice_index_or l.touched k []) ≡ true;
  len : length l.touched ≡ length l.fn.touched;
}
