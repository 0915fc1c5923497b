use Rattle.std.proofs.Common.{◌≡◌, ◌++◌, map, drop, flat_map}
use Rattle.typing.specs.declared.typed.Arithmetic.{Arithmetic}
use Rattle.algebra.specs.declared.tree.Expression.{Expression}
use Rattle.closed_trees.specs.Outside.{all_depths, depths_in_condition, depths_in_expression, depths_in_function}
use Rattle.closed_trees.proofs.depths.+depths.Given as goal

abbrev pub invariant-depths_in_conditions-loop-operand : goal.invariant-depths_in_conditions-loop-operand
invariant-depths_in_conditions-loop-operand l = l.depths ++ all_depths (map depths_in_condition (drop l.operand-index l.operands)) ≡ all_depths (map depths_in_condition l.operands)

abbrev pub invariant-depths_in_expressions-loop-item : goal.invariant-depths_in_expressions-loop-item
invariant-depths_in_expressions-loop-item l = l.depths ++ all_depths (map depths_in_expression (drop l.item-index l.items)) ≡ all_depths (map depths_in_expression l.items)

abbrev pub invariant-depths_in_operands-loop-operand : goal.invariant-depths_in_operands-loop-operand
invariant-depths_in_operands-loop-operand l =
    l.depths ++ flat_map (λ (other : Arithmetic × Expression). depths_in_expression other.1) (drop l.operand-index l.others) ≡ flat_map (λ (other : Arithmetic × Expression). depths_in_expression other.1) l.others

abbrev pub invariant-depths_in_functions-loop-function : goal.invariant-depths_in_functions-loop-function
invariant-depths_in_functions-loop-function l = l.depths ++ all_depths (map depths_in_function (drop l.function-index l.functions)) ≡ all_depths (map depths_in_function l.functions)
