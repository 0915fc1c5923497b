use Rattle.std.proofs.Common.{◌≡◌, [], ◌∷◌, drop, map, take, Ok}
use Rattle.typing.specs.Condition.{conjuncts, disjuncts}
use Rattle.typing.specs.Finding.{each}
use Rattle.typing.specs.Finds.{Finds}
use Rattle.typing.specs.From.{all_crossed, from_found, joined_by}
use Rattle.typing.specs.Known.{known}
use Rattle.typing.specs.Part.{Shown}
use Rattle.typing.specs.Typing.{conjunction_part, item_part, join_part, negation_part, reference_part, source_part}
use Rattle.ast.specs.declared.tree.TableReference.{TableReference, out-TableReference}
use Rattle.scopes.specs.Seen.{frames, seen}
use Rattle.type_rules.proofs.FindsLemmas.{after}
use Rattle.query_types.specs.Parts.{as_found, continued, factor_after, in_order, multiplied, summed, term_after}
use Rattle.query_types.specs.Selects.{addend_after, operand_after}
use Rattle.query_types.proofs.Conjuncts.{flattened}
use Rattle.query_types.proofs.+queries.Given as goal

-- what is found so far, and then what is left, is the whole
abbrev pub invariant-expressions::summands-loop-operator : goal.invariant-expressions::summands-loop-operator
invariant-expressions::summands-loop-operator l =
    after l.operands (each (in_order (term_after (known l.schema)) summed (drop l.operator-index l.others) (seen l.here))) ≡ each (in_order (term_after (known l.schema)) summed l.others (seen l.view))

abbrev pub invariant-expressions::joined_texts-loop-operator : goal.invariant-expressions::joined_texts-loop-operator
invariant-expressions::joined_texts-loop-operator l =
    after l.operands (each (in_order (term_after (known l.schema)) continued (drop l.operator-index l.others) (seen l.here))) ≡ each (in_order (term_after (known l.schema)) continued l.others (seen l.view))

abbrev pub invariant-expressions::multipliers-loop-operator : goal.invariant-expressions::multipliers-loop-operator
invariant-expressions::multipliers-loop-operator l =
    after l.operands (each (in_order (factor_after (known l.schema)) multiplied (drop l.operator-index l.others) (seen l.here))) ≡ each (in_order (factor_after (known l.schema)) multiplied l.others (seen l.view))

abbrev pub invariant-queries::typed_list-loop-item : goal.invariant-queries::typed_list-loop-item
invariant-queries::typed_list-loop-item l =
    after l.shown (each (in_order (item_part (known l.schema)) as_found (drop l.item-index l.item-items) (seen l.here)))
    ≡ each (in_order (item_part (known l.schema)) as_found l.item-items (record { scope = frames l.fn.scope; clause = Shown l.fn.first }))

abbrev pub invariant-conditions::typed_disjunction-loop-other : goal.invariant-conditions::typed_disjunction-loop-other
invariant-conditions::typed_disjunction-loop-other l =
    flattened disjuncts l.operands (each (in_order (conjunction_part (known l.schema)) as_found (drop l.other-index l.others) (seen l.here)))
    ≡ flattened disjuncts [] (each (Ok l.fn.first ∷ in_order (conjunction_part (known l.schema)) as_found l.others (seen l.view)))

abbrev pub invariant-conditions::typed_negations-loop-other : goal.invariant-conditions::typed_negations-loop-other
invariant-conditions::typed_negations-loop-other l =
    flattened conjuncts l.operands (each (in_order (negation_part (known l.schema)) as_found (drop l.other-index l.others) (seen l.here)))
    ≡ flattened conjuncts [] (each (Ok l.fn.first ∷ in_order (negation_part (known l.schema)) as_found l.others (seen l.view)))

abbrev pub invariant-queries::typed_addends-loop-operator : goal.invariant-queries::typed_addends-loop-operator
invariant-queries::typed_addends-loop-operator l =
    after l.operands (each (map (addend_after (known l.schema) l.first (frames l.scope)) (drop l.operator-index l.others))) ≡ each (map (addend_after (known l.schema) l.first (frames l.scope)) l.others)

abbrev pub invariant-queries::typed_operands-loop-all : goal.invariant-queries::typed_operands-loop-all
invariant-queries::typed_operands-loop-all l =
    after l.operands (each (map (operand_after (known l.schema) l.first (frames l.scope)) (drop l.all-index l.others))) ≡ each (map (operand_after (known l.schema) l.first (frames l.scope)) l.others)

-- the tables so far
abbrev pub invariant-tables::typed_from-loop-other : goal.invariant-tables::typed_from-loop-other
invariant-tables::typed_from-loop-other l =
    (first : TableReference) → l.fn.references ≡ first ∷ l.others →
    Finds l.from (from_found (all_crossed (map (reference_part (known l.schema)) (take l.other-index l.others)) (reference_part (known l.schema) first)) (frames l.scope))

abbrev pub invariant-tables::typed_reference-loop-join : goal.invariant-tables::typed_reference-loop-join
invariant-tables::typed_reference-loop-join l =
    Finds l.from (from_found (joined_by (map (join_part (known l.schema)) (take l.join-index l.join-items)) (source_part (known l.schema) (out-TableReference l.tree).first)) (frames l.scope))
