use Rattle.std.proofs.Common.{◌≡◌, drop}
use Rattle.csvio.specs.Forms.{columns_named}
use Rattle.csvio.proofs.formed.columns_named.Given as goal

abbrev pub invariant-loop-table : goal.invariant-loop-table
invariant-loop-table l = columns_named (drop l.table-index l.schema.tables) l.name ≡ columns_named l.schema.tables l.name
