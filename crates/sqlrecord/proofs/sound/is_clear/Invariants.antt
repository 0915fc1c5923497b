use Rattle.std.proofs.Common.{ℕ, ◌<◌}
use Rattle.sqlrecord.specs.Page.{AreApart}
use Rattle.sqlrecord.proofs.sound.is_clear.Given as goal

abbrev pub invariant-loop-i : goal.invariant-loop-i
invariant-loop-i l = (k : ℕ) → k < l.i → AreApart l.page k l.j
