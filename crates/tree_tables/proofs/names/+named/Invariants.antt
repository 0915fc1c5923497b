use Rattle.std.proofs.Common.{◌≡◌, ◌++◌, map, drop, flat_map}
use Rattle.typing.specs.declared.typed.Arithmetic.{Arithmetic}
use Rattle.algebra.specs.declared.tree.Expression.{Expression}
use Rattle.tree_tables.specs.TablesRead.{all_names, tables_in_condition, tables_in_expression, tables_in_function}
use Rattle.tree_tables.proofs.names.+named.Given as goal

abbrev pub invariant-tables_in_conditions-loop-operand : goal.invariant-tables_in_conditions-loop-operand
invariant-tables_in_conditions-loop-operand l = l.names ++ all_names (map tables_in_condition (drop l.operand-index l.operands)) ≡ all_names (map tables_in_condition l.operands)

abbrev pub invariant-tables_in_expressions-loop-item : goal.invariant-tables_in_expressions-loop-item
invariant-tables_in_expressions-loop-item l = l.names ++ all_names (map tables_in_expression (drop l.item-index l.items)) ≡ all_names (map tables_in_expression l.items)

abbrev pub invariant-tables_in_operands-loop-operand : goal.invariant-tables_in_operands-loop-operand
invariant-tables_in_operands-loop-operand l =
    l.names ++ flat_map (λ (other : Arithmetic × Expression). tables_in_expression other.1) (drop l.operand-index l.others) ≡ flat_map (λ (other : Arithmetic × Expression). tables_in_expression other.1) l.others

abbrev pub invariant-tables_in_functions-loop-function : goal.invariant-tables_in_functions-loop-function
invariant-tables_in_functions-loop-function l = l.names ++ all_names (map tables_in_function (drop l.function-index l.functions)) ≡ all_names (map tables_in_function l.functions)
