use Rattle.std.proofs.Common.{◌≡◌, ◌+◌, ◌++◌, take, drop, length}
use Rattle.sqlrecord.specs.Build.{lent, flatten, total_of}
use Rattle.sqlrecord.proofs.build.put_cells.Given as goal

abbrev pub invariant-loop-cell : goal.invariant-loop-cell
invariant-loop-cell l = record {
  done : take l.place l.page ++ flatten (lent (drop l.cell-index l.cells)) ≡ take l.at l.initial.page ++ flatten (lent l.cells);
  sum : l.place + total_of (lent (drop l.cell-index l.cells)) ≡ l.at + total_of (lent l.cells);
  size : length l.page ≡ length l.initial.page;
}
