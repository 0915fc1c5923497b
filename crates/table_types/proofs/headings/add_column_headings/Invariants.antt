use Rattle.std.proofs.Common.{◌≡◌, ◌++◌, map, take}
use Rattle.table_types.specs.Tables.{column_heading}
use Rattle.table_types.proofs.headings.add_column_headings.Given as goal

-- those that were there, and those of the constraints so far
abbrev pub invariant-loop-constraint : goal.invariant-loop-constraint
invariant-loop-constraint l = l.headings ≡ l.initial.headings ++ map (λ c. column_heading c.name c.rule) (take l.constraint-index l.constraints)
