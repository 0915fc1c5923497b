use Rattle.std.proofs.Common.{◌≡◌, ◌<◌, ◌≤◌}
use Rattle.std.specs.Prelude.{slice_range}
use Rattle.sqlrecord.specs.Build.{flatten}
use Rattle.sqlrecord.specs.Splice.{cells_between}
use Rattle.sqlrecord.proofs.splice.run_between.Given as goal

abbrev pub invariant-loop-i : goal.invariant-loop-i
invariant-loop-i l = record {
  low : l.first < l.i;
  order : l.begin ≤ l.past;
  within : l.past ≤ 4096;
  cells : slice_range l.old l.begin l.past ≡ flatten (cells_between l.old l.first l.i);
}
