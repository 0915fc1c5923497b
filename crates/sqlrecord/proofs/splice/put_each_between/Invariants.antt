use Rattle.std.proofs.Common.{◌≡◌, ◌+◌, ◌≤◌, ◌++◌, take, length}
use Rattle.sqlrecord.specs.Build.{flatten, total_of}
use Rattle.sqlrecord.specs.Splice.{cells_between}
use Rattle.sqlrecord.proofs.splice.put_each_between.Given as goal

abbrev pub invariant-loop-i : goal.invariant-loop-i
invariant-loop-i l = record {
  low : l.first ≤ l.i;
  done : take l.place l.page ≡ take l.at l.initial.page ++ flatten (cells_between l.old l.first l.i);
  end : l.place ≡ l.at + total_of (cells_between l.old l.first l.i);
  size : length l.page ≡ length l.initial.page;
}
