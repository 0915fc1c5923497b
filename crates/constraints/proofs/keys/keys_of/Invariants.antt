use Rattle.std.proofs.Common.{◌≡◌, ◌++◌, drop}
use Rattle.constraints.specs.Foreseen.{keys_asked}
use Rattle.constraints.proofs.keys.keys_of.Given as goal

-- the keys of the constraints so far
abbrev pub invariant-loop-constraint : goal.invariant-loop-constraint
invariant-loop-constraint l = l.keys ++ keys_asked l.indexes (drop l.constraint-index l.constraints) ≡ keys_asked l.indexes l.constraints
