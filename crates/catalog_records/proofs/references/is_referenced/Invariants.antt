use Rattle.std.proofs.Common.{◌≡◌, drop}
use Rattle.catalog_records.specs.References.{is_referenced}
use Rattle.catalog_records.proofs.references.is_referenced.Given as goal

-- what is left decides
abbrev pub invariant-loop-table : goal.invariant-loop-table
invariant-loop-table l = is_referenced l.name (drop l.table-index l.tables) ≡ is_referenced l.name l.tables
