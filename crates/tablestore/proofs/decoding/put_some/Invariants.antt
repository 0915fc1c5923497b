use Rattle.std.proofs.Common.{◌-◌, ◌++◌, List, map, take, drop, length}
use Rattle.std.specs.List.{AllByRecursion}
use Rattle.store.specs.Contents as stored
use Rattle.btree_read.specs.declared.entry.Entry.{Entry}
use Rattle.btree_read.specs.Nodes.{entry_of}
use Rattle.tablestore.specs.Held.{AreLeft, RowFits}
use Rattle.tablestore.proofs.decoding.put_some.Given as goal

abbrev pub invariant-loop-i : goal.invariant-loop-i
invariant-loop-i l = record {
  left : (more : List Entry) (all : List stored.Entry) → AreLeft l.columns l.fn.found (take (l.most - length l.fn.found.rows) (drop l.passed (map entry_of l.leaf.cells ++ more))) all
      → AreLeft l.columns l.found (take (l.most - length l.found.rows) (map entry_of (drop l.i l.leaf.cells) ++ drop (l.passed - length l.leaf.cells) more)) all;
  typed : AllByRecursion (RowFits l.columns) l.fn.found.rows → AllByRecursion (RowFits l.columns) l.found.rows;
}
