use Rattle.std.proofs.Common.{◌≡◌}
use Rattle.kernels.specs.Aggregates.{rows_of}
use Rattle.kernels.proofs.Gathering.{before_all}
use Rattle.kernels.proofs.grouped.rows_of_groups.Given as goal

abbrev pub invariant-loop-group : goal.invariant-loop-group
invariant-loop-group l = rows_of l.arguments l.aggregates l.fn.groups ≡ before_all l.rows (rows_of l.arguments l.aggregates l.group-iterator.rest.items)
