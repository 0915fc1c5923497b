use Rattle.std.proofs.Common.{◌≡◌, ◌≤◌, ◌-◌, ◌++◌, take, drop, length, map}
use Rattle.btree_read.specs.Nodes.{entry_of}
use Rattle.btree_read.proofs.block.take_from.Given as goal

abbrev pub invariant-loop-i : goal.invariant-loop-i
invariant-loop-i l = record {
  taken : l.entries ≡ take l.most (l.fn.entries ++ map entry_of (take (l.i - l.first) (drop l.first l.leaf.cells)));
  few : length l.entries ≤ l.most;
}
