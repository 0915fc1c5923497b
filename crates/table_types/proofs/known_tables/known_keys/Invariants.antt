use Rattle.std.proofs.Common.{◌≡◌, ◌++◌, drop}
use Rattle.std.specs.Prelude.{flat_map}
use Rattle.table_types.specs.ForeignKeys.{kept_key}
use Rattle.table_types.proofs.known_tables.known_keys.Given as goal

-- those so far, and those of the constraints that are left
abbrev pub invariant-loop-constraint : goal.invariant-loop-constraint
invariant-loop-constraint l = l.keys ++ flat_map (λ c. kept_key c.rule) (drop l.constraint-index l.constraints) ≡ flat_map (λ c. kept_key c.rule) l.constraints
