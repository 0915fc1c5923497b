use Rattle.std.proofs.Common.{◌≡◌, drop}
use Rattle.catalog_records.specs.References.{are_references_among}
use Rattle.catalog_records.proofs.references.are_references_over.Given as goal

-- what is left decides
abbrev pub invariant-loop-table : goal.invariant-loop-table
invariant-loop-table l = are_references_among l.tables (drop l.table-index l.tables) ≡ are_references_among l.tables l.tables
