use Rattle.std.proofs.Common.{drop}
use Rattle.std.specs.Prelude.{◌↔◌}
use Rattle.std.specs.List.{AllByRecursion}
use Rattle.catalog_records.specs.Keepable.{IsIndexOver}
use Rattle.catalog_records.proofs.columns.are_indexes_over.Given as goal

-- what is left decides
abbrev pub invariant-loop-index : goal.invariant-loop-index
invariant-loop-index l = AllByRecursion (IsIndexOver l.count) (drop l.index-index l.indexes) ↔ AllByRecursion (IsIndexOver l.count) l.indexes
