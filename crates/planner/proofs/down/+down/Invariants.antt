use Rattle.std.proofs.Common.{◌+◌, ◌*◌}
use Rattle.planner.proofs.down.+down.Given as goal

-- The depth falls from one node to the next; at a node each function calls the next one.
abbrev pub decreases-moved_down : goal.decreases-moved_down
decreases-moved_down l = 5 * l.depth

abbrev pub decreases-node_down : goal.decreases-node_down
decreases-node_down l = 5 * l.depth + 4

abbrev pub decreases-below : goal.decreases-below
decreases-below l = 5 * l.depth + 3

abbrev pub decreases-parts_down : goal.decreases-parts_down
decreases-parts_down l = 5 * l.depth + 2

abbrev pub decreases-part_down : goal.decreases-part_down
decreases-part_down l = 5 * l.depth + 1
