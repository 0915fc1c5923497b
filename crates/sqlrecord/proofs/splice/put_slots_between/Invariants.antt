use Rattle.std.proofs.Common.{◌≡◌, ◌+◌, ◌-◌, ◌*◌, ◌≤◌, ◌++◌, take}
use Rattle.sqlrecord.specs.Build.{slots_of, total_of}
use Rattle.sqlrecord.specs.Splice.{cells_between}
use Rattle.sqlrecord.proofs.splice.put_slots_between.Given as goal

abbrev pub invariant-loop-i : goal.invariant-loop-i
invariant-loop-i l = record {
  low : l.first ≤ l.i;
  done : take l.place l.page ≡ take l.at l.initial.page ++ slots_of l.start (cells_between l.old l.first l.i);
  end : l.offset ≡ l.start + total_of (cells_between l.old l.first l.i);
  behind : l.place ≡ l.at + 4 * (l.i - l.first);
}
