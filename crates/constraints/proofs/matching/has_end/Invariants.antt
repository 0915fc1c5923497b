use Rattle.std.proofs.Common.{◌≡◌, drop}
use Rattle.std.specs.List.{list_any}
use Rattle.sqlval.specs.declared.schema.Constraint.{Constraint}
use Rattle.sqlval.specs.declared.schema.Table.{Table}
use Rattle.constraints.specs.Matched.{is_end}
use Rattle.constraints.proofs.matching.has_end.Given as goal

-- what is left decides
abbrev pub invariant-loop-table : goal.invariant-loop-table
invariant-loop-table l =
    list_any (λ (table : Table). list_any (λ (c : Constraint). is_end l.name table.name c.rule) table.constraints) (drop l.table-index l.table-items)
    ≡ list_any (λ (table : Table). list_any (λ (c : Constraint). is_end l.name table.name c.rule) table.constraints) l.table-items
