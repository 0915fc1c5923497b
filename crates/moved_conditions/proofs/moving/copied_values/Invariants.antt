use Rattle.std.proofs.Common.{◌≡◌, take}
use Rattle.moved_conditions.proofs.moving.copied_values.Given as goal

abbrev pub invariant-loop-value : goal.invariant-loop-value
invariant-loop-value l = l.copied ≡ take l.value-index l.value-items
