use Rattle.std.proofs.Common.{◌≡◌, map, take}
use Rattle.denote.specs.Expression.{cell}
use Rattle.uncorrelated_subqueries.proofs.subqueries.first_cells.Given as goal

abbrev pub invariant-loop-row : goal.invariant-loop-row
invariant-loop-row l = l.values ≡ map (λ row. cell row 0) (take l.row-index l.rows)
