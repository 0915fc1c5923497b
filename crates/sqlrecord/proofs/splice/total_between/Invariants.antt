use Rattle.std.proofs.Common.{◌≡◌, ◌*◌, ◌≤◌}
use Rattle.sqlrecord.specs.Build.{total_of}
use Rattle.sqlrecord.specs.Splice.{cells_between}
use Rattle.sqlrecord.proofs.splice.total_between.Given as goal

abbrev pub invariant-loop-i : goal.invariant-loop-i
invariant-loop-i l = record {
  low : l.first ≤ l.i;
  sum : l.sum ≡ total_of (cells_between l.old l.first l.i);
  small : l.sum ≤ 65536 * l.i;
}
