use Rattle.std.proofs.Common.{ℕ, ◌≡◌, ◌+◌, ◌*◌, ◌<◌, ◌≤◌, true}
use Rattle.sqlrecord.specs.Page.{AreApart, offset_of, length_of, count_of, lowest_of}
use Rattle.sqlrecord.proofs.sound.places_of.Given as goal

abbrev pub invariant-loop-i : goal.invariant-loop-i
invariant-loop-i l = record {
  behind : (k : ℕ) → k < l.i → 16 + 4 * count_of l.page ≤ offset_of l.page k;
  within : (k : ℕ) → k < l.i → offset_of l.page k + length_of l.page k ≤ 4096;
  lowest : l.lowest ≡ lowest_of l.page l.i;
  below : (k : ℕ) → k < l.i → offset_of l.page k + length_of l.page k ≤ l.past;
  apart : l.is_ascending ≡ true → (i j : ℕ) → i < j → j < l.i → AreApart l.page i j;
}
