use Rattle.std.proofs.Common.{◌≡◌, drop}
use Rattle.catalog_records.specs.References.{references}
use Rattle.catalog_records.proofs.references.references.Given as goal

-- what is left decides
abbrev pub invariant-loop-constraint : goal.invariant-loop-constraint
invariant-loop-constraint l = references l.name (drop l.constraint-index l.constraints) ≡ references l.name l.constraints
