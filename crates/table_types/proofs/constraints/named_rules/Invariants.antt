use Rattle.std.proofs.Common.{◌≡◌, ◌++◌}
use Rattle.table_types.specs.Tables.{named_by}
use Rattle.table_types.proofs.constraints.named_rules.Given as goal

-- the constraints so far, and those of the names and rules that are left
abbrev pub invariant-loop-rule : goal.invariant-loop-rule
invariant-loop-rule l = l.constraints ++ named_by l.left l.rule-iterator.rest.items ≡ named_by l.fn.names l.fn.rules
