use Rattle.std.proofs.Common.{◌≡◌, length}
use Rattle.csvio.specs.Forms.{are_distinct}
use Rattle.csvio.proofs.header.are_distinct.Given as goal

abbrev pub invariant-loop-name : goal.invariant-loop-name
invariant-loop-name l = are_distinct l.left ≡ are_distinct l.names

abbrev pub decreases-loop-name : goal.decreases-loop-name
decreases-loop-name l = length l.left
