use Rattle.std.proofs.Common.{◌≡◌, drop, fold}
use Rattle.denote.specs.Group.{greater}
use Rattle.kernels.proofs.totals.greatest_of.Given as goal

abbrev pub invariant-loop-value : goal.invariant-loop-value
invariant-loop-value l = fold greater l.best (drop l.value-index l.others) ≡ fold greater l.fn.first l.others
