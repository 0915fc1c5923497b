use Rattle.std.proofs.Common.{take}
use Rattle.ast.specs.Expressions.{IsConjunction, IsFactor, IsNegation, IsTerm}
use Rattle.ast.specs.Notation.{◌⨾◌, ◌⊳◌, Many, Written}
use Rattle.ast.specs.Queries.{IsAddend, IsJoin, IsOperand, IsSelectItem, IsTableReference}
use Rattle.ast.specs.Terminals.{IsAddOperator, IsMultiplyOperator, IsSetOperator}
use Rattle.ast.specs.Words.{ALL, AND, COMMA, INTERSECT, OR}
use Rattle.printer.specs.Writing.{Prints}
use Rattle.printer.proofs.writer.Writer.+print.Given as goal

abbrev pub invariant-expression-loop-operator : goal.invariant-expression-loop-operator
invariant-expression-loop-operator l =
    Prints (λ limit inner. Many (IsAddOperator ⨾ IsTerm limit inner)) (take l.operator-index l.operator-items) l.initial.self l.self

abbrev pub invariant-term-loop-operator : goal.invariant-term-loop-operator
invariant-term-loop-operator l =
    Prints (λ limit inner. Many (IsMultiplyOperator ⨾ IsFactor limit inner)) (take l.operator-index l.operator-items) l.initial.self l.self

abbrev pub invariant-condition-loop-conjunction : goal.invariant-condition-loop-conjunction
invariant-condition-loop-conjunction l =
    Prints (λ limit inner. Many (OR ⊳ IsConjunction limit inner)) (take l.conjunction-index l.conjunction-items) l.initial.self l.self

abbrev pub invariant-conjunction-loop-negation : goal.invariant-conjunction-loop-negation
invariant-conjunction-loop-negation l =
    Prints (λ limit inner. Many (AND ⊳ IsNegation limit inner)) (take l.negation-index l.negation-items) l.initial.self l.self

abbrev pub invariant-query-loop-operator : goal.invariant-query-loop-operator
invariant-query-loop-operator l =
    Prints (λ limit inner. Many (IsSetOperator ⨾ IsAddend limit inner)) (take l.operator-index l.operator-items) l.initial.self l.self

abbrev pub invariant-addend-loop-has_all : goal.invariant-addend-loop-has_all
invariant-addend-loop-has_all l =
    Prints (λ limit inner. Many (INTERSECT ⊳ Written ALL ⨾ IsOperand limit inner)) (take l.has_all-index l.has_all-items) l.initial.self l.self

abbrev pub invariant-select_items-loop-item : goal.invariant-select_items-loop-item
invariant-select_items-loop-item l =
    Prints (λ limit inner. Many (COMMA ⊳ IsSelectItem limit inner)) (take l.item-index l.others) l.initial.self l.self

abbrev pub invariant-table_references-loop-reference : goal.invariant-table_references-loop-reference
invariant-table_references-loop-reference l =
    Prints (λ limit inner. Many (COMMA ⊳ IsTableReference limit inner)) (take l.reference-index l.others) l.initial.self l.self

abbrev pub invariant-table_reference-loop-join : goal.invariant-table_reference-loop-join
invariant-table_reference-loop-join l =
    Prints (λ limit inner. Many (IsJoin limit inner)) (take l.join-index l.join-items) l.initial.self l.self
