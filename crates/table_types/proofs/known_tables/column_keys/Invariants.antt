use Rattle.std.proofs.Common.{◌≡◌, ◌++◌, drop}
use Rattle.std.specs.Prelude.{flat_map}
use Rattle.table_types.specs.ForeignKeys.{column_key}
use Rattle.table_types.proofs.known_tables.column_keys.Given as goal

-- those so far, and those of the constraints that are left
abbrev pub invariant-loop-constraint : goal.invariant-loop-constraint
invariant-loop-constraint l = l.keys ++ flat_map (λ c. column_key l.place c.rule) (drop l.constraint-index l.constraints) ≡ flat_map (λ c. column_key l.place c.rule) l.constraints
