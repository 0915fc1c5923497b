use Rattle.std.proofs.Common.{◌≡◌, drop}
use Rattle.constraints.specs.Rules.{broken}
use Rattle.constraints.proofs.constraints.broken_constraint.Given as goal

-- no constraint before this one is broken
abbrev pub invariant-loop-constraint : goal.invariant-loop-constraint
invariant-loop-constraint l = broken (drop l.constraint-index l.constraint-items) l.rows ≡ broken l.constraint-items l.rows
