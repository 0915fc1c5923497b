use Rattle.std.proofs.Common.{◌≡◌, ◌+◌, ℕ, List, map, take}
use Rattle.std.specs.List.{enumerate_from}
use Rattle.store.specs.Contents.{Entry}
use Rattle.database_trees.proofs.numbering.numbers_on.Given as goal

abbrev pub invariant-loop-row : goal.invariant-loop-row
invariant-loop-row l = record {
  number : l.number ≡ l.first + l._row-index;
  numbers : l.numbers ≡ map (λ (e : Entry). e.0) (enumerate_from l.first (take l._row-index l.rows));
}
