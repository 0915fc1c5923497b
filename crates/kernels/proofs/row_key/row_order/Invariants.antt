use Rattle.std.proofs.Common.{◌≡◌, length}
use Rattle.kernels.specs.KeyOrder.{row_order}
use Rattle.kernels.proofs.row_key.row_order.Given as goal

abbrev pub invariant-loop-x : goal.invariant-loop-x
invariant-loop-x l = row_order l.left l.right ≡ row_order l.fn.a l.fn.b

abbrev pub decreases-loop-x : goal.decreases-loop-x
decreases-loop-x l = length l.left
