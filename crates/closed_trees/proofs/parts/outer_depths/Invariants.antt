use Rattle.std.proofs.Common.{◌≡◌, take}
use Rattle.closed_trees.specs.Outside.{outwards}
use Rattle.closed_trees.proofs.parts.outer_depths.Given as goal

abbrev pub invariant-loop-depth : goal.invariant-loop-depth
invariant-loop-depth l = l.outer ≡ outwards (take l.depth-index l.depths)
