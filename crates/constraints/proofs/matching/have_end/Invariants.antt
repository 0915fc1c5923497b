use Rattle.std.proofs.Common.{◌≡◌, drop}
use Rattle.std.specs.List.{list_any}
use Rattle.sqlval.specs.declared.schema.Constraint.{Constraint}
use Rattle.constraints.specs.Matched.{is_end}
use Rattle.constraints.proofs.matching.have_end.Given as goal

-- what is left decides
abbrev pub invariant-loop-constraint : goal.invariant-loop-constraint
invariant-loop-constraint l =
    list_any (λ (c : Constraint). is_end l.name l.other c.rule) (drop l.constraint-index l.constraints)
    ≡ list_any (λ (c : Constraint). is_end l.name l.other c.rule) l.constraints
