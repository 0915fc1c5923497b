use Rattle.std.proofs.Common.{take}
use Rattle.std.specs.Prelude.{flat_map}
use Rattle.condition_printer.specs.Trees.{Puts, join_tokens}
use Rattle.condition_printer.proofs.Productions.{combined, conjunct, disjunct, intersected, multiplier, next_item, next_reference, summand}
use Rattle.condition_printer.proofs.writer.Writer.+texts.Given as goal

abbrev pub invariant-expression-loop-operator : goal.invariant-expression-loop-operator
invariant-expression-loop-operator l =
    Puts (flat_map summand (take l.operator-index l.operator-items)) l.initial.self l.self

abbrev pub invariant-term-loop-operator : goal.invariant-term-loop-operator
invariant-term-loop-operator l =
    Puts (flat_map multiplier (take l.operator-index l.operator-items)) l.initial.self l.self

abbrev pub invariant-condition-loop-conjunction : goal.invariant-condition-loop-conjunction
invariant-condition-loop-conjunction l =
    Puts (flat_map disjunct (take l.conjunction-index l.conjunction-items)) l.initial.self l.self

abbrev pub invariant-conjunction-loop-negation : goal.invariant-conjunction-loop-negation
invariant-conjunction-loop-negation l =
    Puts (flat_map conjunct (take l.negation-index l.negation-items)) l.initial.self l.self

abbrev pub invariant-query-loop-operator : goal.invariant-query-loop-operator
invariant-query-loop-operator l =
    Puts (flat_map combined (take l.operator-index l.operator-items)) l.initial.self l.self

abbrev pub invariant-addend-loop-has_all : goal.invariant-addend-loop-has_all
invariant-addend-loop-has_all l =
    Puts (flat_map intersected (take l.has_all-index l.has_all-items)) l.initial.self l.self

abbrev pub invariant-select_items-loop-item : goal.invariant-select_items-loop-item
invariant-select_items-loop-item l =
    Puts (flat_map next_item (take l.item-index l.others)) l.initial.self l.self

abbrev pub invariant-table_references-loop-reference : goal.invariant-table_references-loop-reference
invariant-table_references-loop-reference l =
    Puts (flat_map next_reference (take l.reference-index l.others)) l.initial.self l.self

abbrev pub invariant-table_reference-loop-join : goal.invariant-table_reference-loop-join
invariant-table_reference-loop-join l =
    Puts (flat_map join_tokens (take l.join-index l.join-items)) l.initial.self l.self
