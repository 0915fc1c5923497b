use Rattle.std.proofs.Common.{◌≡◌, drop}
use Rattle.std.specs.List.{position_from}
use Rattle.sqlval.specs.Schema.{same_name}
use Rattle.table_types.proofs.references.place_in.Given as goal

-- the place, if it is not among those before
abbrev pub invariant-loop-at : goal.invariant-loop-at
invariant-loop-at l = position_from (λ column. same_name column.name l.name) l.at (drop l.at l.columns) ≡ position_from (λ column. same_name column.name l.name) 0 l.columns
