use Rattle.std.proofs.Common.{◌≡◌, ℕ, ◌<◌, length}
use Rattle.std.specs.Prelude.{slice_index}
use Rattle.pool.specs.Slots.{slot_at}
use Rattle.pool.proofs.table.reach_all.Given as goal

abbrev pub invariant-loop-page : goal.invariant-loop-page
invariant-loop-page l = record {
  same : (n : ℕ) → slot_at l.slots n ≡ slot_at l.fn.slots n;
  room : (k : ℕ) → k < l.page-index → slice_index l.numbers k < length l.slots;
}
