use Rattle.std.proofs.Common.{◌≡◌, drop}
use Rattle.std.specs.List.{AllByRecursion}
use Rattle.sqlval.specs.declared.schema.Index.{Index}
use Rattle.paged_store.proofs.keeping.are_new.Given as goal

abbrev pub invariant-loop-index : goal.invariant-loop-index
invariant-loop-index l = AllByRecursion (λ (x : Index). x.root ≡ 0) (drop l.index-index l.indexes) → AllByRecursion (λ (x : Index). x.root ≡ 0) l.indexes
