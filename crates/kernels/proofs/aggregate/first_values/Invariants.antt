use Rattle.std.proofs.Common.{◌≡◌, ◌++◌, map}
use Rattle.denote.specs.Expression.{cell}
use Rattle.kernels.proofs.aggregate.first_values.Given as goal

abbrev pub invariant-loop-row : goal.invariant-loop-row
invariant-loop-row l = l.found ++ map (λ row. cell row 0) l.row-iterator.rest.items ≡ map (λ row. cell row 0) l.fn.rows
