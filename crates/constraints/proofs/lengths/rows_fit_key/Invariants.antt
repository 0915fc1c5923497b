use Rattle.std.proofs.Common.{◌≡◌, drop}
use Rattle.std.specs.Prelude.{flat_map}
use Rattle.sqlval.specs.Value.{Row}
use Rattle.denote.specs.StoredRow.{key_faults}
use Rattle.constraints.proofs.lengths.rows_fit_key.Given as goal

-- the keys of the rows before this one are short enough
abbrev pub invariant-loop-row : goal.invariant-loop-row
invariant-loop-row l = let faults = λ (row : Row). key_faults row l.columns in flat_map faults (drop l.row-index l.rows) ≡ flat_map faults l.rows
