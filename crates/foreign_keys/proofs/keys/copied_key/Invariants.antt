use Rattle.std.proofs.Common.{◌≡◌, take}
use Rattle.sqlval.specs.Matching.{key_of}
use Rattle.foreign_keys.proofs.keys.copied_key.Given as goal

abbrev pub invariant-loop-column : goal.invariant-loop-column
invariant-loop-column l = l.key ≡ key_of (take l.column-index l.columns) l.row
