use Rattle.std.proofs.Common.{◌≡◌, refl, ap, ◌∙◌, sym, subst, ℕ, Option, List, ◌∷◌, map, IfOk, arith, rules}
use Rattle.algebra.specs.declared.tree.Tree.{Tree}
use Rattle.rules.specs.Applied.{here}
use Rattle.rules.specs.Paths.{as_list, applied_at, child, in_condition, in_expression, in_function}
use Rattle.rule_steps.specs.Attempted.{attempt}
use Rattle.rule_steps.specs.declared.attempt.Attempt.{Attempt}
use Rattle.rewrite.specs.Visits.{passed, visit}
use Rattle.rewrite.proofs.Ends.{walk-ends}
use Rattle.rewrite.proofs.Lists.{empty, inside_pairs, last-pair-turn, last-turn, pair-turn, pair-turn-passed, turn, turn-passed}
use Rattle.rewrite.proofs.Walking.{visit-now}
use Rattle.rewrite.proofs.Visited.{passed_and, passed_between, passed_calculation, passed_column, passed_compare, passed_concatenation, passed_constant, passed_count, passed_exists, passed_in_list, passed_in_query, passed_like, passed_negation, passed_not, passed_null, passed_or, passed_over, passed_scalar, passed_test, visit_and, visit_between, visit_calculation, visit_column, visit_compare, visit_concatenation, visit_constant, visit_count, visit_distinct, visit_exists, visit_filter, visit_group, visit_half, visit_hash_join, visit_in_list, visit_in_query, visit_index_loop, visit_inner, visit_left, visit_like, visit_member, visit_negation, visit_not, visit_null, visit_opposite, visit_or, visit_over, visit_product, visit_project, visit_range, visit_scalar, visit_scan, visit_seek, visit_set, visit_sort, visit_test}
use Rattle.rewrite.proofs.walk.+walk.Goals as goal

pub in_other_node-returns-in-Scan : goal.in_other_node-returns-in-Scan
in_other_node-returns-in-Scan t c = rw (c.in-Scan.is, visit_scan) c.unchanged.ensures

pub in_other_node-returns-in-Filter : goal.in_other_node-returns-in-Filter
in_other_node-returns-in-Filter t c = rw (c.in-Filter.is, visit_filter) (c.filter_of.ensures _ _ c.child-rows.ensures.made (rw c.child-rows.ensures.passed at c.boxed_condition-condition.ensures.made))

pub in_other_node-returns-in-Product : goal.in_other_node-returns-in-Product
in_other_node-returns-in-Product t c = rw (c.in-Product.is, visit_product) (c.product_of.ensures _ _ c.child-left.ensures.made (rw c.child-left.ensures.passed at c.child.ensures.made))

pub in_other_node-returns-in-Inner : goal.in_other_node-returns-in-Inner
in_other_node-returns-in-Inner t c = rw (c.in-Inner.is, visit_inner) (c.inner_of.ensures _ _ (c.both-sides.ensures _ _ c.child-left-in-Inner.ensures.made (rw c.child-left-in-Inner.ensures.passed at c.child-in-Inner.ensures.made)) (rw (c.child-in-Inner.ensures.passed, c.child-left-in-Inner.ensures.passed) at c.boxed_condition.ensures.made))

pub in_other_node-returns-in-Left : goal.in_other_node-returns-in-Left
in_other_node-returns-in-Left t c = rw (c.in-Left.is, visit_left) (c.left_join_of.ensures _ _ (c.both-sides-in-Left.ensures _ _ c.child-left-in-Left.ensures.made (rw c.child-left-in-Left.ensures.passed at c.child-in-Left.ensures.made)) (rw (c.child-in-Left.ensures.passed, c.child-left-in-Left.ensures.passed) at c.boxed_condition-in-Left.ensures.made))

pub in_other_node-returns-in-Half : goal.in_other_node-returns-in-Half
in_other_node-returns-in-Half t c = rw (c.in-Half.is, visit_half) (c.half_of.ensures _ _ (c.both-sides-in-Half.ensures _ _ c.child-left-in-Half.ensures.made (rw c.child-left-in-Half.ensures.passed at c.child-in-Half.ensures.made)) (rw (c.child-in-Half.ensures.passed, c.child-left-in-Half.ensures.passed) at c.boxed_condition-in-Half.ensures.made))

pub in_other_node-returns-in-OppositeHalf : goal.in_other_node-returns-in-OppositeHalf
in_other_node-returns-in-OppositeHalf t c = rw (c.in-OppositeHalf.is, visit_opposite) (c.opposite_half_of.ensures _ _ (c.both-sides-in-OppositeHalf.ensures _ _ c.child-left-in-OppositeHalf.ensures.made (rw c.child-left-in-OppositeHalf.ensures.passed at c.child-in-OppositeHalf.ensures.made)) (rw (c.child-in-OppositeHalf.ensures.passed, c.child-left-in-OppositeHalf.ensures.passed) at c.boxed_condition-in-OppositeHalf.ensures.made))

pub in_other_node-returns-in-Group : goal.in_other_node-returns-in-Group
in_other_node-returns-in-Group t c = rw (c.in-Group.is, visit_group) (c.group_of.ensures _ _ c.child-rows-in-Group.ensures.made (rw c.child-rows-in-Group.ensures.passed at c.in_functions.ensures.made))

pub in_other_node-returns-in-Project : goal.in_other_node-returns-in-Project
in_other_node-returns-in-Project t c = rw (c.in-Project.is, visit_project) (c.project_of.ensures _ _ c.child-rows-in-Project.ensures.made (rw c.child-rows-in-Project.ensures.passed at c.in_expressions.ensures.made))

pub in_other_node-returns-in-Distinct : goal.in_other_node-returns-in-Distinct
in_other_node-returns-in-Distinct t c = rw (c.in-Distinct.is, visit_distinct) (c.distinct_of.ensures _ c.child-in-Distinct.ensures.made)

pub in_other_node-returns-in-Set : goal.in_other_node-returns-in-Set
in_other_node-returns-in-Set t c = rw (c.in-Set.is, visit_set) (c.set_of.ensures _ _ c.child-left-in-Set.ensures.made (rw c.child-left-in-Set.ensures.passed at c.child-in-Set.ensures.made))

pub in_other_node-returns-in-Sort : goal.in_other_node-returns-in-Sort
in_other_node-returns-in-Sort t c = rw (c.in-Sort.is, visit_sort) (c.sort_of.ensures _ c.child-in-Sort.ensures.made)

pub in_other_node-returns-in-Seek : goal.in_other_node-returns-in-Seek
in_other_node-returns-in-Seek t c = rw (c.in-Seek.is, visit_seek) c.unchanged-in-Seek.ensures

pub in_other_node-returns-in-Range : goal.in_other_node-returns-in-Range
in_other_node-returns-in-Range t c = rw (c.in-Range.is, visit_range) c.unchanged-in-Range.ensures

pub in_other_node-returns-in-IndexLoop : goal.in_other_node-returns-in-IndexLoop
in_other_node-returns-in-IndexLoop t c = rw (c.in-IndexLoop.is, visit_index_loop) (c.index_loop_of.ensures _ _ c.child-left-in-IndexLoop.ensures.made (rw c.child-left-in-IndexLoop.ensures.passed at c.boxed_condition-on.ensures.made))

pub in_other_node-returns-in-HashJoin : goal.in_other_node-returns-in-HashJoin
in_other_node-returns-in-HashJoin t c = rw (c.in-HashJoin.is, visit_hash_join) (c.hash_join_of.ensures _ _ (c.both-sides-in-HashJoin.ensures _ _ c.child-left-in-HashJoin.ensures.made (rw c.child-left-in-HashJoin.ensures.passed at c.child-in-HashJoin.ensures.made)) (rw (c.child-in-HashJoin.ensures.passed, c.child-left-in-HashJoin.ensures.passed) at c.boxed_condition-on-in-HashJoin.ensures.made))

pub in_other_node-returns-in-Member : goal.in_other_node-returns-in-Member
in_other_node-returns-in-Member t c = rw (c.in-Member.is, visit_member) (c.member_of.ensures _ _ (c.both-sides-in-Member.ensures _ _ c.child-rows-in-Member.ensures.made (rw c.child-rows-in-Member.ensures.passed at c.child-in-Member.ensures.made)) (rw (c.child-in-Member.ensures.passed, c.child-rows-in-Member.ensures.passed) at c.boxed_expression.ensures.made))

pub in_node-returns-in-Set : goal.in_node-returns-in-Set
in_node-returns-in-Set t c = rw (c.in-Set.is, visit_set) (c.set_of.ensures _ _ c.child-left.ensures.made (rw c.child-left.ensures.passed at c.child.ensures.made))

pub walk_condition-returns-in-Or : goal.walk_condition-returns-in-Or
walk_condition-returns-in-Or t c = record { passed = rw (c.in-Or.is, passed_or) (c.in_conditions.ensures.passed); made = rw (c.in-Or.is, visit_or) (c.or_of.ensures _ c.in_conditions.ensures.made) }

pub walk_condition-returns-in-And : goal.walk_condition-returns-in-And
walk_condition-returns-in-And t c = record { passed = rw (c.in-And.is, passed_and) (c.in_conditions-in-And.ensures.passed); made = rw (c.in-And.is, visit_and) (c.and_of.ensures _ c.in_conditions-in-And.ensures.made) }

pub walk_condition-returns-in-Not : goal.walk_condition-returns-in-Not
walk_condition-returns-in-Not t c = record { passed = rw (c.in-Not.is, passed_not) (c.boxed_condition.ensures.passed); made = rw (c.in-Not.is, visit_not) (c.not_of.ensures _ c.boxed_condition.ensures.made) }

pub walk_condition-returns-in-IsTruth : goal.walk_condition-returns-in-IsTruth
walk_condition-returns-in-IsTruth t c = record { passed = rw (c.in-IsTruth.is, passed_test) (c.boxed_condition-in-IsTruth.ensures.passed); made = rw (c.in-IsTruth.is, visit_test) (c.truth_of.ensures _ c.boxed_condition-in-IsTruth.ensures.made) }

pub walk_condition-returns-in-Compare : goal.walk_condition-returns-in-Compare
walk_condition-returns-in-Compare t c = record { passed = rw (c.in-Compare.is, passed_compare) (c.boxed_expression.ensures.passed ∙ ap (λ (place : Option ℕ). passed (in_expression c.in-Compare.right) place) c.boxed_expression-left.ensures.passed); made = rw (c.in-Compare.is, visit_compare) (c.compare_of.ensures _ _ c.boxed_expression-left.ensures.made (rw c.boxed_expression-left.ensures.passed at c.boxed_expression.ensures.made)) }

pub walk_condition-returns-in-Between : goal.walk_condition-returns-in-Between
walk_condition-returns-in-Between t c = record { passed = rw (c.in-Between.is, passed_between) (c.boxed_expression-in-Between.ensures.passed ∙ ap (λ (place : Option ℕ). passed (in_expression c.in-Between.high) place) (c.boxed_expression-low.ensures.passed ∙ ap (λ (place : Option ℕ). passed (in_expression c.in-Between.low) place) c.boxed_expression-operand.ensures.passed)); made = rw (c.in-Between.is, visit_between) (c.between_of.ensures _ _ c.boxed_expression-operand.ensures.made (c.both-bounds.ensures _ _ (rw c.boxed_expression-operand.ensures.passed at c.boxed_expression-low.ensures.made) (rw (c.boxed_expression-low.ensures.passed, c.boxed_expression-operand.ensures.passed) at c.boxed_expression-in-Between.ensures.made))) }

pub walk_condition-returns-in-InList : goal.walk_condition-returns-in-InList
walk_condition-returns-in-InList t c = record { passed = rw (c.in-InList.is, passed_in_list) (c.boxed_expression-in-InList.ensures.passed); made = rw (c.in-InList.is, visit_in_list) (c.in_list_of.ensures _ c.boxed_expression-in-InList.ensures.made) }

pub walk_condition-returns-in-InQuery : goal.walk_condition-returns-in-InQuery
walk_condition-returns-in-InQuery t c = record { passed = rw (c.in-InQuery.is, passed_in_query) (c.child.ensures.passed ∙ ap (λ (place : Option ℕ). passed (child c.in-InQuery.tree) place) c.boxed_expression-operand-in-InQuery.ensures.passed); made = rw (c.in-InQuery.is, visit_in_query) (c.in_query_of.ensures _ _ c.boxed_expression-operand-in-InQuery.ensures.made (rw c.boxed_expression-operand-in-InQuery.ensures.passed at c.child.ensures.made)) }

pub walk_condition-returns-in-Like : goal.walk_condition-returns-in-Like
walk_condition-returns-in-Like t c = record { passed = rw (c.in-Like.is, passed_like) (c.boxed_expression-in-Like.ensures.passed ∙ ap (λ (place : Option ℕ). passed (in_expression c.in-Like.pattern) place) c.boxed_expression-operand-in-Like.ensures.passed); made = rw (c.in-Like.is, visit_like) (c.like_of.ensures _ _ c.boxed_expression-operand-in-Like.ensures.made (rw c.boxed_expression-operand-in-Like.ensures.passed at c.boxed_expression-in-Like.ensures.made)) }

pub walk_condition-returns-in-IsNull : goal.walk_condition-returns-in-IsNull
walk_condition-returns-in-IsNull t c = record { passed = rw (c.in-IsNull.is, passed_null) (c.boxed_expression-in-IsNull.ensures.passed); made = rw (c.in-IsNull.is, visit_null) (c.null_of.ensures _ c.boxed_expression-in-IsNull.ensures.made) }

pub walk_condition-returns-in-Exists : goal.walk_condition-returns-in-Exists
walk_condition-returns-in-Exists t c = record { passed = rw (c.in-Exists.is, passed_exists) (c.child-in-Exists.ensures.passed); made = rw (c.in-Exists.is, visit_exists) (c.exists_of.ensures _ c.child-in-Exists.ensures.made) }

pub walk_expression-returns-in-Constant : goal.walk_expression-returns-in-Constant
walk_expression-returns-in-Constant t c = record { passed = rw (c.in-Constant.is, passed_constant) (refl); made = rw (c.in-Constant.is, visit_constant) c.unchanged.ensures }

pub walk_expression-returns-in-Column : goal.walk_expression-returns-in-Column
walk_expression-returns-in-Column t c = record { passed = rw (c.in-Column.is, passed_column) (refl); made = rw (c.in-Column.is, visit_column) c.unchanged-in-Column.ensures }

pub walk_expression-returns-in-Calculation : goal.walk_expression-returns-in-Calculation
walk_expression-returns-in-Calculation t c = record { passed = rw (c.in-Calculation.is, passed_calculation) (c.in_operands.ensures.passed ∙ ap (λ (place : Option ℕ). passed (inside_pairs in_expression c.in-Calculation.others) place) c.boxed_expression-first.ensures.passed); made = rw (c.in-Calculation.is, visit_calculation) (c.calculation_of.ensures _ _ c.boxed_expression-first.ensures.made (rw c.boxed_expression-first.ensures.passed at c.in_operands.ensures.made)) }

pub walk_expression-returns-in-Concatenation : goal.walk_expression-returns-in-Concatenation
walk_expression-returns-in-Concatenation t c = record { passed = rw (c.in-Concatenation.is, passed_concatenation) (c.in_expressions.ensures.passed ∙ ap (λ (place : Option ℕ). passed (as_list (map in_expression c.in-Concatenation.others)) place) c.boxed_expression-first-in-Concatenation.ensures.passed); made = rw (c.in-Concatenation.is, visit_concatenation) (c.concatenation_of.ensures _ _ c.boxed_expression-first-in-Concatenation.ensures.made (rw c.boxed_expression-first-in-Concatenation.ensures.passed at c.in_expressions.ensures.made)) }

pub walk_expression-returns-in-Negation : goal.walk_expression-returns-in-Negation
walk_expression-returns-in-Negation t c = record { passed = rw (c.in-Negation.is, passed_negation) (c.boxed_expression.ensures.passed); made = rw (c.in-Negation.is, visit_negation) (c.negation_of.ensures _ c.boxed_expression.ensures.made) }

pub walk_expression-returns-in-Scalar : goal.walk_expression-returns-in-Scalar
walk_expression-returns-in-Scalar t c = record { passed = rw (c.in-Scalar.is, passed_scalar) (c.child.ensures.passed); made = rw (c.in-Scalar.is, visit_scalar) (c.scalar_of.ensures _ c.child.ensures.made) }

pub walk_function-returns-in-CountRows : goal.walk_function-returns-in-CountRows
walk_function-returns-in-CountRows t c = record { passed = rw (c.in-CountRows.is, passed_count) (refl); made = rw (c.in-CountRows.is, visit_count) c.unchanged.ensures }

pub walk_function-returns-in-Over : goal.walk_function-returns-in-Over
walk_function-returns-in-Over t c = record { passed = rw (c.in-Over.is, passed_over) (c.walk_expression.ensures.passed); made = rw (c.in-Over.is, visit_over) (c.over_of.ensures _ c.walk_expression.ensures.made) }

pub boxed_condition-returns : goal.boxed_condition-returns
boxed_condition-returns t c = record { passed = rw (← c.into_inner.ensures) c.walk_condition.ensures.passed; made = rw (← c.into_inner.ensures) (c.boxed.ensures _ c.walk_condition.ensures.made) }

pub boxed_expression-returns : goal.boxed_expression-returns
boxed_expression-returns t c = record { passed = rw (← c.into_inner.ensures) c.walk_expression.ensures.passed; made = rw (← c.into_inner.ensures) (c.boxed.ensures _ c.walk_expression.ensures.made) }

pub child-returns-clause-made : goal.child-returns-clause-made
child-returns-clause-made t c =
    let h = here c.args.calm c.args.rule in
    let tree = c.into_inner.result in
    subst (λ (x : Attempt Tree). IfOk c.boxed.result (λ made. made ≡ x))
    (sym (visit-now h c.args.path.now tree c.args.place.now c.in-Some.more c.in-Some.is (omega (arith, c.if-more-gt0.false)))
    ∙ ap (λ (x : Tree). visit h c.args.path.now (child x) c.args.place.now) c.into_inner.ensures)
    (c.boxed.ensures (attempt (applied_at h c.args.path.now tree) tree) c.try_at.ensures)

pub try_at-returns-in-Some : goal.try_at-returns-in-Some
try_at-returns-in-Some t c =
    let h = here c.args.calm c.args.rule in
    let place = c.in-Some.place.now in
    let rest = c.in-Some.rest.now in
    let whole : c.args.path.now ≡ place ∷ rest = search (rules) in
    subst (λ (x : Attempt Tree). IfOk c.in_node.result (λ made. made ≡ x))
    (walk-ends h rest c.args.tree place ∙ ap (λ (p : List ℕ). attempt (applied_at h p c.args.tree) c.args.tree) (sym whole))
    c.in_node.ensures

pub in_conditions-loop-condition-preserved : goal.in_conditions-loop-condition-preserved
in_conditions-loop-condition-preserved t c =
    let old = c.loop-condition.condition-iterator.rest.items in
    let new = c.next.new.self.rest.items in
    let moved : old ≡ c.in-Some.condition ∷ new = search (rules) in (
      turn (here c.args.calm c.args.rule) c.args.path.now in_condition old new c.in-Some.condition c.loop-condition.place c.walk_condition.new.place
          c.loop-condition.made c.pushed-made.result c.walk_condition.result
          (visit (here c.args.calm c.args.rule) c.args.path.now (as_list (map in_condition c.args.conditions)) c.args.place.now)
          moved c.walk_condition.ensures.passed c.loop-condition.invariant.0 c.walk_condition.ensures.made c.pushed-made.ensures,
      turn-passed in_condition old new c.in-Some.condition c.loop-condition.place c.walk_condition.new.place
          (passed (as_list (map in_condition c.args.conditions)) c.args.place.now) moved c.walk_condition.ensures.passed c.loop-condition.invariant.1,
    )

pub in_conditions-returns-clause-made : goal.in_conditions-returns-clause-made
in_conditions-returns-clause-made t c =
    let left = c.loop-condition.condition-iterator.rest in
    last-turn (here c.args.calm c.args.rule) c.args.path.now in_condition left.items c.loop-condition.place c.loop-condition.made
    (visit (here c.args.calm c.args.rule) c.args.path.now (as_list (map in_condition c.args.conditions)) c.args.place.now)
    (empty left.items (sym left.ok.0 ∙ c.in-None.ensures.steps.0)) c.loop-condition.invariant.0

pub in_expressions-loop-item-preserved : goal.in_expressions-loop-item-preserved
in_expressions-loop-item-preserved t c =
    let old = c.loop-item.item-iterator.rest.items in
    let new = c.next.new.self.rest.items in
    let moved : old ≡ c.in-Some.item ∷ new = search (rules) in (
      turn (here c.args.calm c.args.rule) c.args.path.now in_expression old new c.in-Some.item c.loop-item.place c.walk_expression.new.place
          c.loop-item.made c.pushed-made.result c.walk_expression.result
          (visit (here c.args.calm c.args.rule) c.args.path.now (as_list (map in_expression c.args.items)) c.args.place.now)
          moved c.walk_expression.ensures.passed c.loop-item.invariant.0 c.walk_expression.ensures.made c.pushed-made.ensures,
      turn-passed in_expression old new c.in-Some.item c.loop-item.place c.walk_expression.new.place
          (passed (as_list (map in_expression c.args.items)) c.args.place.now) moved c.walk_expression.ensures.passed c.loop-item.invariant.1,
    )

pub in_expressions-returns-clause-made : goal.in_expressions-returns-clause-made
in_expressions-returns-clause-made t c =
    let left = c.loop-item.item-iterator.rest in
    last-turn (here c.args.calm c.args.rule) c.args.path.now in_expression left.items c.loop-item.place c.loop-item.made
    (visit (here c.args.calm c.args.rule) c.args.path.now (as_list (map in_expression c.args.items)) c.args.place.now)
    (empty left.items (sym left.ok.0 ∙ c.in-None.ensures.steps.0)) c.loop-item.invariant.0

pub in_functions-loop-function-preserved : goal.in_functions-loop-function-preserved
in_functions-loop-function-preserved t c =
    let old = c.loop-function.function-iterator.rest.items in
    let new = c.next.new.self.rest.items in
    let moved : old ≡ c.in-Some.function ∷ new = search (rules) in (
      turn (here c.args.calm c.args.rule) c.args.path.now in_function old new c.in-Some.function c.loop-function.place c.walk_function.new.place
          c.loop-function.made c.pushed-made.result c.walk_function.result
          (visit (here c.args.calm c.args.rule) c.args.path.now (as_list (map in_function c.args.functions)) c.args.place.now)
          moved c.walk_function.ensures.passed c.loop-function.invariant.0 c.walk_function.ensures.made c.pushed-made.ensures,
      turn-passed in_function old new c.in-Some.function c.loop-function.place c.walk_function.new.place
          (passed (as_list (map in_function c.args.functions)) c.args.place.now) moved c.walk_function.ensures.passed c.loop-function.invariant.1,
    )

pub in_functions-returns-clause-made : goal.in_functions-returns-clause-made
in_functions-returns-clause-made t c =
    let left = c.loop-function.function-iterator.rest in
    last-turn (here c.args.calm c.args.rule) c.args.path.now in_function left.items c.loop-function.place c.loop-function.made
    (visit (here c.args.calm c.args.rule) c.args.path.now (as_list (map in_function c.args.functions)) c.args.place.now)
    (empty left.items (sym left.ok.0 ∙ c.in-None.ensures.steps.0)) c.loop-function.invariant.0

pub in_operands-loop-operator-preserved : goal.in_operands-loop-operator-preserved
in_operands-loop-operator-preserved t c =
    let old = c.loop-operator.operator-iterator.rest.items in
    let new = c.next.new.self.rest.items in
    let moved : old ≡ (c.in-Some.operator, c.in-Some.operand) ∷ new = search (rules) in
    let place = c.loop-operator.place in
    let more = c.walk_expression-operand.new.place in
    let operand = visit (here c.args.calm c.args.rule) c.args.path.now (in_expression c.in-Some.operand) place in (
      pair-turn (here c.args.calm c.args.rule) c.args.path.now in_expression old new c.in-Some.operator c.in-Some.operand place more
          c.loop-operator.made c.pushed-made.result c.with_operator.result
          (visit (here c.args.calm c.args.rule) c.args.path.now (inside_pairs in_expression c.args.others) c.args.place.now)
          moved c.walk_expression-operand.ensures.passed c.loop-operator.invariant.0
          (c.with_operator.ensures operand c.walk_expression-operand.ensures.made) c.pushed-made.ensures,
      pair-turn-passed in_expression old new c.in-Some.operator c.in-Some.operand place more
          (passed (inside_pairs in_expression c.args.others) c.args.place.now) moved c.walk_expression-operand.ensures.passed
          c.loop-operator.invariant.1,
    )

pub in_operands-returns-clause-made : goal.in_operands-returns-clause-made
in_operands-returns-clause-made t c =
    let left = c.loop-operator.operator-iterator.rest in
    last-pair-turn (here c.args.calm c.args.rule) c.args.path.now in_expression left.items c.loop-operator.place c.loop-operator.made
    (visit (here c.args.calm c.args.rule) c.args.path.now (inside_pairs in_expression c.args.others) c.args.place.now)
    (empty left.items (sym left.ok.0 ∙ c.in-None.ensures.steps.0)) c.loop-operator.invariant.0
