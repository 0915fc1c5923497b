use Rattle.std.proofs.Common.{ℕ, ◌+◌, ◌<◌, get_or, IsTrue}
use Rattle.std.specs.Ordering.{is_lt}
use Rattle.sqlrecord.specs.Key.{byte_order}
use Rattle.sqlrecord.specs.Page.{key_of, IsCell}
use Rattle.sqlrecord.proofs.CellLemmas.{nothing}
use Rattle.sqlrecord.proofs.cell.are_cells.Given as goal

abbrev pub invariant-loop-i : goal.invariant-loop-i
invariant-loop-i l = record {
  formed : (k : ℕ) → k < l.i → IsCell l.kind (get_or l.cells k nothing).now;
  rising : (k : ℕ) → k + 1 < l.i → IsTrue (is_lt (byte_order (key_of (get_or l.cells k nothing).now) (key_of (get_or l.cells (k + 1) nothing).now)));
}
