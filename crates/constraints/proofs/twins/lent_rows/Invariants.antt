use Rattle.std.proofs.Common.{◌≡◌, take}
use Rattle.constraints.specs.Keys.{rows_lent}
use Rattle.constraints.proofs.twins.lent_rows.Given as goal

-- the rows before this one are lent
abbrev pub invariant-loop-row : goal.invariant-loop-row
invariant-loop-row l = rows_lent l.lent.items ≡ take l.row-index l.rows
