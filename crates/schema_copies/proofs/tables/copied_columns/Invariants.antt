use Rattle.std.proofs.Common.{◌≡◌, take}
use Rattle.schema_copies.proofs.tables.copied_columns.Given as goal

abbrev pub invariant-loop-column : goal.invariant-loop-column
invariant-loop-column l = l.copied ≡ take l.column-index l.columns
