use Rattle.std.proofs.Common.{◌≡◌, ◌++◌}
use Rattle.change.specs.Listed.{constants_of}
use Rattle.change.proofs.query_rows.constants_of.Given as goal

abbrev pub invariant-loop-value : goal.invariant-loop-value
invariant-loop-value l = l.sources ++ constants_of l.value-iterator.rest.items ≡ constants_of l.fn.row
