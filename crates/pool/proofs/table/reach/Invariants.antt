use Rattle.std.proofs.Common.{◌≡◌, ℕ, ◌≤◌, ◌-◌, ◌+◌, length}
use Rattle.pool.specs.Slots.{slot_at}
use Rattle.pool.proofs.table.reach.Given as goal

abbrev pub invariant-filled : goal.invariant-filled
invariant-filled l = record {
  same : (n : ℕ) → slot_at l.slots n ≡ slot_at l.fn.slots n;
  longer : length l.fn.slots ≤ length l.slots;
}

abbrev pub decreases-filled : goal.decreases-filled
decreases-filled l = (l.place + 1) - length l.slots
