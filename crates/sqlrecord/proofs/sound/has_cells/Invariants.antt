use Rattle.std.proofs.Common.{ℕ, ◌≡◌, ◌+◌, ◌<◌, IsTrue}
use Rattle.std.specs.Ordering.{is_lt}
use Rattle.sqlrecord.specs.Key.{byte_order}
use Rattle.sqlrecord.specs.Page.{cell_of, key_of, IsCell}
use Rattle.sqlrecord.proofs.sound.has_cells.Given as goal

abbrev pub invariant-loop-i : goal.invariant-loop-i
invariant-loop-i l = record {
  formed : (k : ℕ) → k < l.i → IsCell l.kind (cell_of l.page k);
  rising : (k : ℕ) → k + 1 < l.i → IsTrue (is_lt (byte_order (key_of (cell_of l.page k)) (key_of (cell_of l.page (k + 1)))));
  kept : (k : ℕ) → k + 1 ≡ l.i → l.before ≡ key_of (cell_of l.page k);
}
