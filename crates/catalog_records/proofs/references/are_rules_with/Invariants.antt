use Rattle.std.proofs.Common.{◌≡◌, ◌∷◌, drop}
use Rattle.catalog_records.specs.References.{are_rules_among}
use Rattle.catalog_records.proofs.references.are_rules_with.Given as goal

-- what is left decides
abbrev pub invariant-loop-constraint : goal.invariant-loop-constraint
invariant-loop-constraint l = are_rules_among (l.table ∷ l.tables) (drop l.constraint-index l.constraints) ≡ are_rules_among (l.table ∷ l.tables) l.constraints
