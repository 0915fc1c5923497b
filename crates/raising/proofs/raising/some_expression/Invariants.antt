use Rattle.std.proofs.Common.{◌≡◌, map, drop}
use Rattle.algebra.specs.Raising.{some_may, expression_may_raise}
use Rattle.raising.proofs.raising.some_expression.Given as goal

abbrev pub invariant-loop-item : goal.invariant-loop-item
invariant-loop-item l = some_may (map expression_may_raise (drop l.item-index l.items)) ≡ some_may (map expression_may_raise l.items)
