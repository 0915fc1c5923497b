use Rattle.std.proofs.Common.{◌≡◌, drop}
use Rattle.rules.specs.Nodes.{first_found}
use Rattle.rule_steps.specs.Found.{seek_key}
use Rattle.rule_steps.proofs.lookups.first_seek.Given as goal

-- no index before this one serves
abbrev pub invariant-loop-columns : goal.invariant-loop-columns
invariant-loop-columns l =
    first_found (seek_key l.condition) (drop l.columns-index l.indexes) ≡ first_found (seek_key l.condition) l.indexes
