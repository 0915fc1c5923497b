use Rattle.std.proofs.Common.{◌≡◌, drop}
use Rattle.constraints.specs.Keys.{has_neighbours, rows_lent}
use Rattle.constraints.proofs.twins.any_neighbours.Given as goal

-- no row before this place has the key of the one before it
abbrev pub invariant-loop-at : goal.invariant-loop-at
invariant-loop-at l = has_neighbours l.columns (rows_lent (drop l.at l.rows)) ≡ has_neighbours l.columns (rows_lent l.rows)
