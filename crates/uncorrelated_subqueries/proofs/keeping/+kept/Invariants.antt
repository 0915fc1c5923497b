use Rattle.std.proofs.Common.{◌≡◌, map, take}
use Rattle.typing.specs.declared.typed.Arithmetic.{Arithmetic}
use Rattle.algebra.specs.declared.tree.Expression.{Expression}
use Rattle.uncorrelated_subqueries.specs.Kept.{kept_expression, kept_condition, kept_function}
use Rattle.uncorrelated_subqueries.proofs.keeping.+kept.Given as goal

abbrev pub invariant-operands-loop-operator : goal.invariant-operands-loop-operator
invariant-operands-loop-operator g l = l.made ≡ map (λ (other : Arithmetic × Expression). (other.0, kept_expression (g.S.Tables.rows_of l.tables) other.1)) (take l.operator-index l.operator-items)

abbrev pub invariant-expressions-loop-operand : goal.invariant-expressions-loop-operand
invariant-expressions-loop-operand g l = l.made ≡ map (kept_expression (g.S.Tables.rows_of l.tables)) (take l.operand-index l.operand-items)

abbrev pub invariant-conditions-loop-operand : goal.invariant-conditions-loop-operand
invariant-conditions-loop-operand g l = l.made ≡ map (kept_condition (g.S.Tables.rows_of l.tables)) (take l.operand-index l.operand-items)

abbrev pub invariant-functions-loop-function : goal.invariant-functions-loop-function
invariant-functions-loop-function g l = l.made ≡ map (kept_function (g.S.Tables.rows_of l.tables)) (take l.function-index l.function-items)
