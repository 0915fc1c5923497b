use Rattle.std.proofs.Common.{◌≡◌, take}
use Rattle.schema_copies.proofs.tables.copied_tables.Given as goal

abbrev pub invariant-loop-table : goal.invariant-loop-table
invariant-loop-table l = l.copied ≡ take l.table-index l.tables
