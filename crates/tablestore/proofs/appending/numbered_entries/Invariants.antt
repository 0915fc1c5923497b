use Rattle.std.proofs.Common.{◌≡◌, ◌+◌, take}
use Rattle.std.specs.List.{enumerate_from}
use Rattle.tablestore.specs.Held.{entries_of, AreKept}
use Rattle.tablestore.proofs.appending.numbered_entries.Given as goal

abbrev pub invariant-loop-row : goal.invariant-loop-row
invariant-loop-row l = record {
  entries : l.entries ≡ entries_of (enumerate_from l.first (take l.row-index l.rows));
  kept : AreKept (enumerate_from l.first (take l.row-index l.rows));
  number : l.number ≡ l.first + l.row-index;
}
