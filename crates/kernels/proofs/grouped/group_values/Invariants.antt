use Rattle.std.proofs.Common.{◌≡◌, drop}
use Rattle.denote.specs.Evaluation.{together}
use Rattle.kernels.specs.Aggregates.{values_over}
use Rattle.kernels.proofs.Gathering.{before_all}
use Rattle.kernels.proofs.grouped.group_values.Given as goal

abbrev pub invariant-loop-number : goal.invariant-loop-number
invariant-loop-number l =
    together (values_over l.arguments l.places l.aggregates 0) ≡ before_all l.values (together (values_over l.arguments l.places (drop l.number l.aggregates) l.number))
