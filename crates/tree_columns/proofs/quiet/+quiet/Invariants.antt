use Rattle.std.proofs.Common.{◌≡◌, map, drop}
use Rattle.std.specs.List.{list_all}
use Rattle.typing.specs.declared.typed.Arithmetic.{Arithmetic}
use Rattle.algebra.specs.declared.tree.Expression.{Expression}
use Rattle.rules.specs.Quiet.{all_calm}
use Rattle.tree_columns.specs.Calm.{item_calm, item_quiet, set_function_calm}
use Rattle.tree_columns.proofs.quiet.+quiet.Given as goal

abbrev pub invariant-items_quiet-loop-item : goal.invariant-items_quiet-loop-item
invariant-items_quiet-loop-item l =
    all_calm (map item_calm (drop l.item-index l.items)) ≡ all_calm (map item_calm l.items)

abbrev pub invariant-operands_quiet-loop-operand : goal.invariant-operands_quiet-loop-operand
invariant-operands_quiet-loop-operand l =
    list_all (λ (other : Arithmetic × Expression). item_quiet other.1) (drop l.operand-index l.others)
    ≡ list_all (λ (other : Arithmetic × Expression). item_quiet other.1) l.others

abbrev pub invariant-set_functions_quiet-loop-function : goal.invariant-set_functions_quiet-loop-function
invariant-set_functions_quiet-loop-function l =
    all_calm (map set_function_calm (drop l.function-index l.functions)) ≡ all_calm (map set_function_calm l.functions)
