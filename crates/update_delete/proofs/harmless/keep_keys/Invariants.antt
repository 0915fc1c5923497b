use Rattle.std.proofs.Common.{◌≡◌, drop}
use Rattle.update_delete.specs.Kept.{keep_keys}
use Rattle.update_delete.proofs.harmless.keep_keys.Given as goal

-- the keys of the constraints before this one are the same
abbrev pub invariant-loop-constraint : goal.invariant-loop-constraint
invariant-loop-constraint l = keep_keys (drop l.constraint-index l.constraints) l.row l.new ≡ keep_keys l.constraints l.row l.new
