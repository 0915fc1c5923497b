use Rattle.std.proofs.Common.{◌≡◌, drop}
use Rattle.std.specs.List.{list_all}
use Rattle.csvio.specs.Forms.{is_column}
use Rattle.csvio.proofs.header.are_columns.Given as goal

abbrev pub invariant-loop-name : goal.invariant-loop-name
invariant-loop-name l = list_all (is_column l.columns) (drop l.name-index l.names) ≡ list_all (is_column l.columns) l.names
