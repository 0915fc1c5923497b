use Rattle.std.proofs.Common.{ℕ, ◌≡◌, ◌+◌, ◌*◌, ◌<◌, ◌≤◌, IsTrue}
use Rattle.std.specs.Ordering.{is_lt}
use Rattle.sqlrecord.specs.Key.{byte_order}
use Rattle.sqlrecord.specs.Page.{AreApart, IsCell, cell_of, count_of, key_of, length_of, lowest_of, offset_of}
use Rattle.sqlrecord.proofs.sound.lowest_in_order.Given as goal

abbrev pub invariant-loop-i : goal.invariant-loop-i
invariant-loop-i l = record {
  behind : (k : ℕ) → k < l.i → 16 + 4 * count_of l.page ≤ offset_of l.page k;
  within : (k : ℕ) → k < l.i → offset_of l.page k + length_of l.page k ≤ 4096;
  lowest : l.lowest ≡ lowest_of l.page l.i;
  slots : 16 + 4 * count_of l.page ≤ l.past;
  below : (k : ℕ) → k < l.i → offset_of l.page k + length_of l.page k ≤ l.past;
  apart : (i j : ℕ) → i < j → j < l.i → AreApart l.page i j;
  formed : (k : ℕ) → k < l.i → IsCell l.kind (cell_of l.page k);
  rising : (k : ℕ) → k + 1 < l.i → IsTrue (is_lt (byte_order (key_of (cell_of l.page k)) (key_of (cell_of l.page (k + 1)))));
  kept : (k : ℕ) → k + 1 ≡ l.i → l.before ≡ key_of (cell_of l.page k);
}
