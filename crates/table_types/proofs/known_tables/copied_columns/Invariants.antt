use Rattle.std.proofs.Common.{◌≡◌, take}
use Rattle.table_types.proofs.known_tables.copied_columns.Given as goal

-- the columns so far
abbrev pub invariant-loop-column : goal.invariant-loop-column
invariant-loop-column l = l.copied ≡ take l.column-index l.columns
