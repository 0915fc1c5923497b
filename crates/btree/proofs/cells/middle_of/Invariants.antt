use Rattle.std.proofs.Common.{◌≡◌, ◌<◌, take}
use Rattle.sqlrecord.specs.Build.{lent}
use Rattle.btree.specs.Overfull.{size_of}
use Rattle.btree.proofs.cells.middle_of.Given as goal

abbrev pub invariant-loop-i : goal.invariant-loop-i
invariant-loop-i l = (l.size ≡ size_of (take l.i (lent l.cells))) × (l.size < 2040)
