use Rattle.std.proofs.Common.{◌≡◌, drop}
use Rattle.std.specs.List.{list_any}
use Rattle.catalog_records.specs.References.{is_meant_by}
use Rattle.catalog_records.proofs.references.is_any_meant.Given as goal

-- what is left decides
abbrev pub invariant-loop-table : goal.invariant-loop-table
invariant-loop-table l = list_any (is_meant_by l.reference) (drop l.table-index l.tables) ≡ list_any (is_meant_by l.reference) l.tables
