use Rattle.std.proofs.Common.{◌≡◌, ◌-◌, List, take, drop, length}
use Rattle.std.specs.List.{AllByRecursion}
use Rattle.store.specs.Contents as stored
use Rattle.btree_read.specs.Blocks.{entries_in_block}
use Rattle.btree_read.specs.Nodes.{entries_in}
use Rattle.tablestore.specs.Held.{entries_of, AreKept, AreLeft, RowFits, AreFitting}
use Rattle.tablestore.proofs.decoding.rows_of_block.Given as goal

abbrev pub invariant-loop-leaf : goal.invariant-loop-leaf
invariant-loop-leaf l = record {
  left : (all : List stored.Entry) → AreKept all → AreFitting l.columns all → entries_in_block l.most l.block ≡ entries_of all
      → AreLeft l.columns l.found (take (l.most - length l.found.rows) (drop l.passed (entries_in (drop l.leaf-index l.leaves)))) all;
  typed : AllByRecursion (RowFits l.columns) l.found.rows;
}
