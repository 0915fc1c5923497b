use Rattle.std.proofs.Common.{drop}
use Rattle.std.specs.List.{AllByRecursion}
use Rattle.catalog_records.specs.Keepable.{IsIndex}
use Rattle.paged_store.proofs.keeping.are_indexes.Given as goal

abbrev pub invariant-loop-index : goal.invariant-loop-index
invariant-loop-index l = AllByRecursion IsIndex (drop l.index-index l.indexes) → AllByRecursion IsIndex l.indexes
