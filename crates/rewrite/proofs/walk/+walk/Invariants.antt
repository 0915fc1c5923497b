use Rattle.std.proofs.Common.{◌≡◌, map}
use Rattle.std.specs.Prelude.{IfOk}
use Rattle.rules.specs.Applied.{here}
use Rattle.rules.specs.Paths.{as_list, in_condition, in_expression, in_function}
use Rattle.rewrite.specs.Visits.{passed, visit}
use Rattle.rewrite.proofs.Lists.{behind, inside_pairs}
use Rattle.rewrite.proofs.walk.+walk.Given as goal

-- what was made of the parts before, and what will be of those behind
abbrev pub invariant-in_conditions-loop-condition : goal.invariant-in_conditions-loop-condition
invariant-in_conditions-loop-condition l =
    IfOk l.made (λ front. behind front (visit (here l.calm l.rule) l.path (as_list (map in_condition l.condition-iterator.rest.items)) l.place)
    ≡ visit (here l.calm l.rule) l.path (as_list (map in_condition l.fn.conditions)) l.fn.place)
    × (passed (as_list (map in_condition l.condition-iterator.rest.items)) l.place ≡ passed (as_list (map in_condition l.fn.conditions)) l.fn.place)

abbrev pub invariant-in_expressions-loop-item : goal.invariant-in_expressions-loop-item
invariant-in_expressions-loop-item l =
    IfOk l.made (λ front. behind front (visit (here l.calm l.rule) l.path (as_list (map in_expression l.item-iterator.rest.items)) l.place)
    ≡ visit (here l.calm l.rule) l.path (as_list (map in_expression l.fn.items)) l.fn.place)
    × (passed (as_list (map in_expression l.item-iterator.rest.items)) l.place ≡ passed (as_list (map in_expression l.fn.items)) l.fn.place)

abbrev pub invariant-in_operands-loop-operator : goal.invariant-in_operands-loop-operator
invariant-in_operands-loop-operator l =
    IfOk l.made (λ front. behind front (visit (here l.calm l.rule) l.path (inside_pairs in_expression l.operator-iterator.rest.items) l.place)
    ≡ visit (here l.calm l.rule) l.path (inside_pairs in_expression l.fn.others) l.fn.place)
    × (passed (inside_pairs in_expression l.operator-iterator.rest.items) l.place ≡ passed (inside_pairs in_expression l.fn.others) l.fn.place)

abbrev pub invariant-in_functions-loop-function : goal.invariant-in_functions-loop-function
invariant-in_functions-loop-function l =
    IfOk l.made (λ front. behind front (visit (here l.calm l.rule) l.path (as_list (map in_function l.function-iterator.rest.items)) l.place)
    ≡ visit (here l.calm l.rule) l.path (as_list (map in_function l.fn.functions)) l.fn.place)
    × (passed (as_list (map in_function l.function-iterator.rest.items)) l.place ≡ passed (as_list (map in_function l.fn.functions)) l.fn.place)
