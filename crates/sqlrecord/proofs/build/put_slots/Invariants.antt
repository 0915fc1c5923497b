use Rattle.std.proofs.Common.{◌≡◌, ◌+◌, ◌*◌, ◌++◌, take, drop}
use Rattle.sqlrecord.specs.Build.{lent, slots_of, total_of}
use Rattle.sqlrecord.proofs.build.put_slots.Given as goal

abbrev pub invariant-loop-cell : goal.invariant-loop-cell
invariant-loop-cell l = record {
  done : take l.place l.page ++ slots_of l.offset (lent (drop l.cell-index l.cells)) ≡ take l.at l.initial.page ++ slots_of l.start (lent l.cells);
  sum : l.offset + total_of (lent (drop l.cell-index l.cells)) ≡ l.start + total_of (lent l.cells);
  behind : l.place ≡ l.at + 4 * l.cell-index;
}
