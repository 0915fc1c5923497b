use Rattle.std.proofs.Common.{ℕ, ◌<◌}
use Rattle.std.specs.Prelude.{IsSome}
use Rattle.sessions.specs.Numbers.{held_at}
use Rattle.sessions.proofs.slots.Slots.first_free.Given as goal

abbrev pub invariant-loop-number : goal.invariant-loop-number
invariant-loop-number l = (k : ℕ) → k < l.number → IsSome (held_at l.self.all k)
