use Rattle.std.proofs.Common.{◌≡◌, drop}
use Rattle.rules.specs.Nodes.{first_found}
use Rattle.rule_steps.specs.Found.{limits_by}
use Rattle.rule_steps.proofs.lookups.first_limits.Given as goal

-- no index before this one serves
abbrev pub invariant-loop-columns : goal.invariant-loop-columns
invariant-loop-columns l =
    first_found (limits_by l.both l.conditions) (drop l.columns-index l.indexes)
    ≡ first_found (limits_by l.both l.conditions) l.indexes
