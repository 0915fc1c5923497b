use Rattle.std.proofs.Common.{◌≡◌, ℕ, ◌-◌, ◌<◌, ◌≤◌, [], true, false, length}
use Rattle.std.specs.Prelude.{slice_index_or}
use Rattle.sqlrecord.specs.Page.{key_of, AreCells}
use Rattle.btree_read.specs.Sorted.{is_from}
use Rattle.btree_read.proofs.place.first_place.Given as goal

abbrev pub invariant-loop-low : goal.invariant-loop-low
invariant-loop-low l = record {
  order : l.low ≤ l.high;
  within : l.high ≤ length l.page.cells;
  cells : AreCells l.page.kind l.page.cells;
  before : (i : ℕ) → i < l.low → is_from l.start l.key (key_of (slice_index_or l.page.cells i [])) ≡ false;
  behind : (i : ℕ) → l.high ≤ i → i < length l.page.cells → is_from l.start l.key (key_of (slice_index_or l.page.cells i [])) ≡ true;
}

abbrev pub decreases-loop-low : goal.decreases-loop-low
decreases-loop-low l = l.high - l.low
