use Rattle.std.proofs.Common.{◌≡◌, take}
use Rattle.uncorrelated_subqueries.proofs.tables.copied_values.Given as goal

abbrev pub invariant-loop-value : goal.invariant-loop-value
invariant-loop-value l = l.copied ≡ take l.value-index l.value-items
