use Rattle.std.proofs.Common.{drop}
use Rattle.std.specs.List.{AllByRecursion}
use Rattle.catalog_records.specs.Keepable.{IsColumn}
use Rattle.paged_store.proofs.keeping.are_columns.Given as goal

abbrev pub invariant-loop-column : goal.invariant-loop-column
invariant-loop-column l = AllByRecursion IsColumn (drop l.column-index l.columns) → AllByRecursion IsColumn l.columns
