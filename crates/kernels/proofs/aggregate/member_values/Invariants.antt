use Rattle.std.proofs.Common.{◌≡◌, take}
use Rattle.kernels.specs.Aggregates.{values_at}
use Rattle.kernels.proofs.aggregate.member_values.Given as goal

abbrev pub invariant-loop-place : goal.invariant-loop-place
invariant-loop-place l = l.values ≡ values_at l.arguments l.number (take l.place-index l.places)
