use Rattle.std.proofs.Common.{◌≡◌, take}
use Rattle.denote.specs.Condition.{among}
use Rattle.executor.proofs.subqueries.is_in.Given as goal

abbrev pub invariant-loop-value : goal.invariant-loop-value
invariant-loop-value l = l.found ≡ among l.x (take l.value-index l.values)
