use Rattle.std.proofs.Common.{◌≡◌, length}
use Rattle.typing.specs.Table.{are_distinct}
use Rattle.scopes.proofs.names.are_distinct.Given as goal

-- the answer is that for the names that are left
abbrev pub invariant-loop-name : goal.invariant-loop-name
invariant-loop-name l = are_distinct l.left ≡ are_distinct l.names

abbrev pub decreases-loop-name : goal.decreases-loop-name
decreases-loop-name l = length l.left
