use Rattle.std.proofs.Common.{◌≡◌, drop, fold}
use Rattle.denote.specs.Group.{lesser}
use Rattle.kernels.proofs.totals.least_of.Given as goal

abbrev pub invariant-loop-value : goal.invariant-loop-value
invariant-loop-value l = fold lesser l.best (drop l.value-index l.others) ≡ fold lesser l.fn.first l.others
