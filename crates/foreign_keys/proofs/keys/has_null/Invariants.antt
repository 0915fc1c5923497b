use Rattle.std.proofs.Common.{◌≡◌, drop}
use Rattle.std.specs.List.{list_any}
use Rattle.sqlval.specs.Matching.{key_of}
use Rattle.sqlval.specs.Value.{is_null}
use Rattle.foreign_keys.proofs.keys.has_null.Given as goal

abbrev pub invariant-loop-column : goal.invariant-loop-column
invariant-loop-column l = list_any is_null (key_of (drop l.column-index l.columns) l.row) ≡ list_any is_null (key_of l.columns l.row)
