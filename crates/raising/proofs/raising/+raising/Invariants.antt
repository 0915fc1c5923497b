use Rattle.std.proofs.Common.{◌≡◌, map, drop}
use Rattle.algebra.specs.Raising.{some_may, condition_may_raise}
use Rattle.raising.proofs.raising.+raising.Given as goal

abbrev pub invariant-some_condition-loop-operand : goal.invariant-some_condition-loop-operand
invariant-some_condition-loop-operand l = some_may (map condition_may_raise (drop l.operand-index l.operands)) ≡ some_may (map condition_may_raise l.operands)
