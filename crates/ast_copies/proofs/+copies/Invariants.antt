use Rattle.std.proofs.Common.{◌≡◌, take}
use Rattle.ast_copies.proofs.+copies.Given as goal

abbrev pub invariant-expressions::copy_terms-loop-operator : goal.invariant-expressions::copy_terms-loop-operator
invariant-expressions::copy_terms-loop-operator l = l.copied ≡ take l.operator-index l.operator-items

abbrev pub invariant-expressions::copy_factors-loop-operator : goal.invariant-expressions::copy_factors-loop-operator
invariant-expressions::copy_factors-loop-operator l = l.copied ≡ take l.operator-index l.operator-items

abbrev pub invariant-conditions::copy_conjunctions-loop-conjunction : goal.invariant-conditions::copy_conjunctions-loop-conjunction
invariant-conditions::copy_conjunctions-loop-conjunction l = l.copied ≡ take l.conjunction-index l.conjunction-items

abbrev pub invariant-conditions::copy_negations-loop-negation : goal.invariant-conditions::copy_negations-loop-negation
invariant-conditions::copy_negations-loop-negation l = l.copied ≡ take l.negation-index l.negation-items

abbrev pub invariant-queries::copy_addends-loop-operator : goal.invariant-queries::copy_addends-loop-operator
invariant-queries::copy_addends-loop-operator l = l.copied ≡ take l.operator-index l.operator-items

abbrev pub invariant-queries::copy_operands-loop-has_all : goal.invariant-queries::copy_operands-loop-has_all
invariant-queries::copy_operands-loop-has_all l = l.copied ≡ take l.has_all-index l.has_all-items

abbrev pub invariant-queries::copy_select_items-loop-item : goal.invariant-queries::copy_select_items-loop-item
invariant-queries::copy_select_items-loop-item l = l.copied ≡ take l.item-index l.item-items

abbrev pub invariant-queries::copy_table_references-loop-reference : goal.invariant-queries::copy_table_references-loop-reference
invariant-queries::copy_table_references-loop-reference l = l.copied ≡ take l.reference-index l.reference-items

abbrev pub invariant-queries::copy_joins-loop-join : goal.invariant-queries::copy_joins-loop-join
invariant-queries::copy_joins-loop-join l = l.copied ≡ take l.join-index l.join-items
