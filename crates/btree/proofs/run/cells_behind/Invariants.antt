use Rattle.std.proofs.Common.{◌≡◌, ◌++◌, take}
use Rattle.sqlrecord.specs.Build.{lent}
use Rattle.btree.proofs.run.cells_behind.Given as goal

abbrev pub invariant-loop-i : goal.invariant-loop-i
invariant-loop-i l = lent l.cells.items ≡ take l.i l.page.cells

abbrev pub invariant-loop-cell : goal.invariant-loop-cell
invariant-loop-cell l = lent l.cells.items ≡ l.page.cells ++ take l.cell-index l.more
