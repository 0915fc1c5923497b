use Rattle.std.proofs.Common.{◌≡◌, map, take}
use Rattle.sqlval.specs.Matching.{key_of}
use Rattle.kernels.proofs.rows.key_rows.Given as goal

abbrev pub invariant-loop-row : goal.invariant-loop-row
invariant-loop-row l = l.keys ≡ map (key_of l.columns) (take l.row-index l.rows)
