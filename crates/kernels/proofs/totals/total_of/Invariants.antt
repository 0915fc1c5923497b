use Rattle.std.proofs.Common.{◌≡◌, ◌*◌, ◌^◌, drop, pos, ◌+ℤ◌, neg_ℤ, ◌≤ℤ◌}
use Rattle.denote.specs.Group.{total}
use Rattle.kernels.proofs.totals.total_of.Given as goal

abbrev pub invariant-loop-value : goal.invariant-loop-value
invariant-loop-value l =
    (l.sum +ℤ total (drop l.value-index l.values) ≡ total l.values) × (neg_ℤ (pos (2 ^ 63 * l.value-index)) ≤ℤ l.sum) × (l.sum ≤ℤ pos (2 ^ 63 * l.value-index))
