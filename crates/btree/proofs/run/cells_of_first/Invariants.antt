use Rattle.std.proofs.Common.{◌≡◌, length, map, take}
use Rattle.btree_read.specs.Nodes.{entry_of}
use Rattle.btree.proofs.run.cells_of_first.Given as goal

abbrev pub invariant-loop-entry : goal.invariant-loop-entry
invariant-loop-entry l = record {
  few : length l.cells.items ≡ l.entry-index;
  shown : map entry_of l.cells.items ≡ take l.entry-index l.entries;
}
