use Rattle.std.proofs.Common.{◌≡◌, take}
use Rattle.denote.specs.Condition.{among, first_column}
use Rattle.executor.proofs.subqueries.is_among.Given as goal

abbrev pub invariant-loop-row : goal.invariant-loop-row
invariant-loop-row l = l.found ≡ among l.x (first_column (take l.row-index l.rows))
