use Rattle.std.proofs.Common.{◌≡◌, map, take}
use Rattle.translation.proofs.described.index_columns.Given as goal

abbrev pub invariant-loop-index : goal.invariant-loop-index
invariant-loop-index l = l.found ≡ map (λ index. index.columns) (take l.index-index l.indexes)
