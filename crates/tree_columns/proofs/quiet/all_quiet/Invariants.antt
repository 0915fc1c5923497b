use Rattle.std.proofs.Common.{◌≡◌, drop}
use Rattle.std.specs.List.{list_all}
use Rattle.rules.specs.Conjuncts.{quiet}
use Rattle.tree_columns.proofs.quiet.all_quiet.Given as goal

-- the conditions before this one are all quiet
abbrev pub invariant-loop-condition : goal.invariant-loop-condition
invariant-loop-condition l = list_all quiet (drop l.condition-index l.conditions) ≡ list_all quiet l.conditions
