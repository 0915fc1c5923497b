use Rattle.std.proofs.Common.{◌≡◌, take}
use Rattle.constraints.proofs.matching.copied_row.Given as goal

abbrev pub invariant-loop-value : goal.invariant-loop-value
invariant-loop-value l = l.copied ≡ take l.value-index l.row
