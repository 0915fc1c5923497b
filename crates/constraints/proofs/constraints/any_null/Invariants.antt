use Rattle.std.proofs.Common.{◌≡◌, drop}
use Rattle.denote.specs.Database.{has_null}
use Rattle.constraints.proofs.constraints.any_null.Given as goal

abbrev pub invariant-loop-row : goal.invariant-loop-row
invariant-loop-row l = has_null l.columns (drop l.row-index l.rows) ≡ has_null l.columns l.rows
