use Rattle.std.proofs.Common.{◌≡◌, length}
use Rattle.denote.specs.Bag.{are_alike}
use Rattle.streams.proofs.alike.are_alike.Given as goal

abbrev pub invariant-loop-x : goal.invariant-loop-x
invariant-loop-x l = are_alike l.left l.right ≡ are_alike l.row l.other

abbrev pub decreases-loop-x : goal.decreases-loop-x
decreases-loop-x l = length l.left
