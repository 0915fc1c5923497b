use Rattle.std.proofs.Common.{◌≡◌, drop}
use Rattle.range_lookups.specs.Ends.{bound_among}
use Rattle.range_lookups.proofs.bounds.bound_among.Given as goal

-- no condition before this one sets a bound
abbrev pub invariant-loop-condition : goal.invariant-loop-condition
invariant-loop-condition l =
    bound_among l.end l.column (drop l.condition-index l.conditions) ≡ bound_among l.end l.column l.conditions
