use Rattle.std.proofs.Common.{◌≡◌, drop}
use Rattle.csvio.specs.Forms.{is_column}
use Rattle.csvio.proofs.header.is_column.Given as goal

abbrev pub invariant-loop-column : goal.invariant-loop-column
invariant-loop-column l = is_column (drop l.column-index l.columns) l.name ≡ is_column l.columns l.name
