use Rattle.kernels.proofs.Growing.{Grown}
use Rattle.kernels.proofs.grouping.grouped_places.Given as goal

abbrev pub invariant-loop-place : goal.invariant-loop-place
invariant-loop-place l = Grown l.numbers l.groups l.place l.keys
