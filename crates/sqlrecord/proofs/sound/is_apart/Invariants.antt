use Rattle.std.proofs.Common.{ℕ, ◌+◌, ◌<◌, ◌≤◌}
use Rattle.sqlrecord.specs.Page.{AreApart, offset_of, length_of}
use Rattle.sqlrecord.proofs.sound.is_apart.Given as goal

abbrev pub invariant-loop-j : goal.invariant-loop-j
invariant-loop-j l = record {
  apart : (i j : ℕ) → i < j → j < l.j → AreApart l.page i j;
  below : (i : ℕ) → i < l.j → offset_of l.page i + length_of l.page i ≤ l.past;
}
