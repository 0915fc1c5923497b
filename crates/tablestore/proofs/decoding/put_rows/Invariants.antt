use Rattle.std.proofs.Common.{◌++◌, List, map, drop}
use Rattle.std.specs.List.{AllByRecursion}
use Rattle.store.specs.Contents as stored
use Rattle.btree_read.specs.declared.entry.Entry.{Entry}
use Rattle.btree_read.specs.Nodes.{entry_of}
use Rattle.tablestore.specs.Held.{AreLeft, RowFits}
use Rattle.tablestore.proofs.decoding.put_rows.Given as goal

abbrev pub invariant-loop-i : goal.invariant-loop-i
invariant-loop-i l = record {
  left : (more : List Entry) (all : List stored.Entry) → AreLeft l.columns l.fn.found (map entry_of l.leaf.cells ++ more) all → AreLeft l.columns l.found (map entry_of (drop l.i l.leaf.cells) ++ more) all;
  typed : AllByRecursion (RowFits l.columns) l.fn.found.rows → AllByRecursion (RowFits l.columns) l.found.rows;
}
