use Rattle.std.proofs.Common.{◌≡◌, ◌≤◌, ◌+◌, length}
use Rattle.csvio.specs.Batches.{rows_in}
use Rattle.csvio.proofs.Batched.{CutsFew}
use Rattle.csvio.proofs.cut.cut.Given as goal

abbrev pub invariant-loop-row : goal.invariant-loop-row
invariant-loop-row l = record {
  cuts : 1 ≤ l.most → CutsFew l.most l.fn.rows l.batches l.batch l.row-iterator.rest.items;
  count : rows_in l.batches + length l.batch + length l.row-iterator.rest.items ≡ length l.fn.rows;
}
