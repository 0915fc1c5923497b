use Rattle.std.proofs.Common.{◌≡◌, drop}
use Rattle.algebra.specs.Described.{primary_key}
use Rattle.translation.proofs.described.key_columns.Given as goal

abbrev pub invariant-loop-constraint : goal.invariant-loop-constraint
invariant-loop-constraint l = primary_key (drop l.constraint-index l.constraints) ≡ primary_key l.constraints
