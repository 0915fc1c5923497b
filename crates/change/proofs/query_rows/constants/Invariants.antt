use Rattle.std.proofs.Common.{◌≡◌, ◌++◌}
use Rattle.change.specs.Listed.{constants}
use Rattle.change.proofs.query_rows.constants.Given as goal

abbrev pub invariant-loop-row : goal.invariant-loop-row
invariant-loop-row l = l.sources ++ constants l.row-iterator.rest.items ≡ constants l.fn.rows
