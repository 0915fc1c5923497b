use Rattle.std.proofs.Common.{◌≡◌, map, take}
use Rattle.typing.specs.declared.typed.Arithmetic.{Arithmetic}
use Rattle.typing.specs.declared.typed.Expression.{Expression}
use Rattle.typing.specs.declared.typed.Query.{Query}
use Rattle.typing.specs.declared.typed.SetOperation.{SetOperation}
use Rattle.algebra.specs.Described.{described_in}
use Rattle.algebra.specs.Translated.{set_tree, tree_of_expression, tree_of_condition, tree_of_function, tree_of_item, tree_of_query}
use Rattle.translation.proofs.+translations.Given as goal

abbrev pub invariant-expressions::operands-loop-operator : goal.invariant-expressions::operands-loop-operator
invariant-expressions::operands-loop-operator l = l.made ≡ map (λ (other : Arithmetic × Expression). (other.0, tree_of_expression (described_in l.schema) other.1)) (take l.operator-index l.operator-items)

abbrev pub invariant-expressions::expressions-loop-operand : goal.invariant-expressions::expressions-loop-operand
invariant-expressions::expressions-loop-operand l = l.made ≡ map (tree_of_expression (described_in l.schema)) (take l.operand-index l.operand-items)

abbrev pub invariant-expressions::select_list-loop-item : goal.invariant-expressions::select_list-loop-item
invariant-expressions::select_list-loop-item l = l.made ≡ map (tree_of_item (described_in l.schema)) (take l.item-index l.item-items)

abbrev pub invariant-expressions::set_functions-loop-function : goal.invariant-expressions::set_functions-loop-function
invariant-expressions::set_functions-loop-function l = l.made ≡ map (tree_of_function (described_in l.schema)) (take l.function-index l.function-items)

abbrev pub invariant-conditions::conditions-loop-operand : goal.invariant-conditions::conditions-loop-operand
invariant-conditions::conditions-loop-operand l = l.made ≡ map (tree_of_condition (described_in l.schema)) (take l.operand-index l.operand-items)

abbrev pub invariant-queries::combined-loop-operation : goal.invariant-queries::combined-loop-operation
invariant-queries::combined-loop-operation l =
    l.tree ≡ set_tree l.fn.first (map (λ (other : SetOperation × Query). (other.0, tree_of_query (described_in l.schema) other.1)) (take l.operation-index l.operation-items))
