use Rattle.std.proofs.Common.{drop}
use Rattle.std.specs.List.{AllByRecursion}
use Rattle.tablestore.specs.Held.{RowFits}
use Rattle.tablestore.proofs.fitting.are_fitting.Given as goal

abbrev pub invariant-loop-row : goal.invariant-loop-row
invariant-loop-row l = AllByRecursion (RowFits l.columns) (drop l.row-index l.rows) → AllByRecursion (RowFits l.columns) l.rows
