use Rattle.std.proofs.Common.{◌≡◌, refl, subst, IfOk}
use Rattle.typing.specs.declared.typed.Arithmetic.{Arithmetic}
use Rattle.algebra.specs.declared.tree.Expression.{Expression}
use Rattle.uncorrelated_subqueries.specs.Kept.{kept_expression, kept_condition, kept_tree}
use Rattle.uncorrelated_subqueries.proofs.Taken.{taken}
use Rattle.uncorrelated_subqueries.proofs.KeptNodes.{expression_calculation, expression_concatenation, expression_scalar, condition_compare, condition_between, condition_in_list, condition_in_query, condition_like, condition_exists, tree_filter, tree_product, tree_inner, tree_left, tree_half, tree_opposite, tree_group, tree_project, tree_distinct, tree_set, tree_sort, tree_index_loop, tree_hash_join, tree_member}
use Rattle.uncorrelated_subqueries.proofs.keeping.+kept.Goals as goal

-- ---- parts on the heap

pub boxed_expression-returns : goal.boxed_expression-returns
boxed_expression-returns g t c = subst (λ x. IfOk c.boxed.result (λ made. made ≡ kept_expression (g.S.Tables.rows_of c.args.tables.now) x)) c.get.ensures (c.boxed.ensures _ c.kept_expression.ensures.kept)

pub boxed_condition-returns : goal.boxed_condition-returns
boxed_condition-returns g t c = subst (λ x. IfOk c.boxed.result (λ made. made ≡ kept_condition (g.S.Tables.rows_of c.args.tables.now) x)) c.get.ensures (c.boxed.ensures _ c.kept_condition.ensures.kept)

pub boxed_tree-returns : goal.boxed_tree-returns
boxed_tree-returns g t c = subst (λ x. IfOk c.boxed.result (λ made. made ≡ kept_tree (g.S.Tables.rows_of c.args.tables.now) x)) c.get.ensures (c.boxed.ensures _ c.kept_tree.ensures.kept)

-- ---- expressions

pub kept_expression-returns-in_ok-first-in-Calculation : goal.kept_expression-returns-in_ok-first-in-Calculation
kept_expression-returns-in_ok-first-in-Calculation g t c = record { kept = rw (c.in-Calculation.is, expression_calculation, c.in_ok-first-in-Calculation.ensures.first _ c.boxed_expression-first.ensures, c.in_ok-first-in-Calculation.ensures.second _ c.operands.ensures) refl }

pub kept_expression-returns-in_ok-first-in-Concatenation : goal.kept_expression-returns-in_ok-first-in-Concatenation
kept_expression-returns-in_ok-first-in-Concatenation g t c = record { kept = rw (c.in-Concatenation.is, expression_concatenation, c.in_ok-first-in-Concatenation.ensures.first _ c.boxed_expression-first-in-Concatenation.ensures, c.in_ok-first-in-Concatenation.ensures.second _ c.expressions.ensures) refl }

pub kept_expression-returns-in-Scalar : goal.kept_expression-returns-in-Scalar
kept_expression-returns-in-Scalar g t c = record { kept = rw (c.in-Scalar.is, expression_scalar) (c.scalar_of.ensures _ c.boxed_tree.ensures) }

pub operands-loop-operator-preserved : goal.operands-loop-operator-preserved
operands-loop-operator-preserved g t c =
    taken (λ (other : Arithmetic × Expression). (other.0, kept_expression (g.S.Tables.rows_of c.args.tables.now) other.1)) _ _ c.loop-operator-item.result c.loop-operator-test.true c.loop-operator-item.is c.loop-operator.invariant (c.in_ok-made.ensures _ (c.with-operand.ensures _ c.kept_expression.ensures.kept))

-- ---- conditions

pub kept_condition-returns-in_ok-left-in-Compare : goal.kept_condition-returns-in_ok-left-in-Compare
kept_condition-returns-in_ok-left-in-Compare g t c = record { kept = rw (c.in-Compare.is, condition_compare, c.in_ok-left-in-Compare.ensures.first _ c.boxed_expression-left.ensures, c.in_ok-left-in-Compare.ensures.second _ c.boxed_expression.ensures) refl }

pub kept_condition-returns-in_ok-operand-in-Between : goal.kept_condition-returns-in_ok-operand-in-Between
kept_condition-returns-in_ok-operand-in-Between g t c = record { kept = rw (c.in-Between.is, condition_between, c.in_ok-operand-in-Between.ensures.first _ c.boxed_expression-in-Between.ensures, c.in_ok-operand-in-Between.ensures.second _ c.boxed_expression-in-Between-2.ensures, c.in_ok-operand-in-Between.ensures.third _ c.boxed_expression-in-Between-3.ensures) refl }

pub kept_condition-returns-in_ok-operand-in-InList : goal.kept_condition-returns-in_ok-operand-in-InList
kept_condition-returns-in_ok-operand-in-InList g t c = record { kept = rw (c.in-InList.is, condition_in_list, c.in_ok-operand-in-InList.ensures.first _ c.boxed_expression-operand.ensures, c.in_ok-operand-in-InList.ensures.second _ c.copied_values.ensures) refl }

pub kept_condition-returns-in_ok-operand-in-Like : goal.kept_condition-returns-in_ok-operand-in-Like
kept_condition-returns-in_ok-operand-in-Like g t c = record { kept = rw (c.in-Like.is, condition_like, c.in_ok-operand-in-Like.ensures.first _ c.boxed_expression-operand-in-Like.ensures, c.in_ok-operand-in-Like.ensures.second _ c.boxed_expression-in-Like.ensures) refl }

pub kept_condition-returns-in-InQuery : goal.kept_condition-returns-in-InQuery
kept_condition-returns-in-InQuery g t c =
    record { kept = rw (c.in-InQuery.is, condition_in_query) (c.in_of.ensures _ _ c.boxed_expression-operand-in-InQuery.ensures c.boxed_tree.ensures) }

pub kept_condition-returns-in-Exists : goal.kept_condition-returns-in-Exists
kept_condition-returns-in-Exists g t c = record { kept = rw (c.in-Exists.is, condition_exists) (c.exists_of.ensures _ c.boxed_tree-in-Exists.ensures) }

-- ---- trees

pub kept_tree-returns-in-Filter : goal.kept_tree-returns-in-Filter
kept_tree-returns-in-Filter g t c = record { kept = rw (c.in-Filter.is, tree_filter) (c.filter_of.ensures _ _ c.boxed_condition.ensures c.boxed_tree.ensures) }

pub kept_tree-returns-in-Product : goal.kept_tree-returns-in-Product
kept_tree-returns-in-Product g t c = record { kept = rw (c.in-Product.is, tree_product) (c.product_of.ensures _ _ c.boxed_tree-left.ensures c.boxed_tree-in-Product.ensures) }

pub kept_tree-returns-in-Inner : goal.kept_tree-returns-in-Inner
kept_tree-returns-in-Inner g t c = record { kept = rw (c.in-Inner.is, tree_inner) (c.inner_of.ensures _ _ _ (c.three.ensures.first _ c.boxed_condition-on.ensures) (c.three.ensures.second _ c.boxed_tree-left-in-Inner.ensures) (c.three.ensures.third _ c.boxed_tree-in-Inner.ensures)) }

pub kept_tree-returns-in-Left : goal.kept_tree-returns-in-Left
kept_tree-returns-in-Left g t c = record { kept = rw (c.in-Left.is, tree_left) (c.left_join_of.ensures _ _ _ (c.three-in-Left.ensures.first _ c.boxed_condition-on-in-Left.ensures) (c.three-in-Left.ensures.second _ c.boxed_tree-left-in-Left.ensures) (c.three-in-Left.ensures.third _ c.boxed_tree-in-Left.ensures)) }

pub kept_tree-returns-in-Half : goal.kept_tree-returns-in-Half
kept_tree-returns-in-Half g t c = record { kept = rw (c.in-Half.is, tree_half) (c.half_of.ensures _ _ _ (c.three-in-Half.ensures.first _ c.boxed_condition-on-in-Half.ensures) (c.three-in-Half.ensures.second _ c.boxed_tree-left-in-Half.ensures) (c.three-in-Half.ensures.third _ c.boxed_tree-in-Half.ensures)) }

pub kept_tree-returns-in-OppositeHalf : goal.kept_tree-returns-in-OppositeHalf
kept_tree-returns-in-OppositeHalf g t c = record { kept = rw (c.in-OppositeHalf.is, tree_opposite) (c.opposite_half_of.ensures _ _ _ (c.three-in-OppositeHalf.ensures.first _ c.boxed_condition-on-in-OppositeHalf.ensures) (c.three-in-OppositeHalf.ensures.second _ c.boxed_tree-left-in-OppositeHalf.ensures) (c.three-in-OppositeHalf.ensures.third _ c.boxed_tree-in-OppositeHalf.ensures)) }

pub kept_tree-returns-in-Group : goal.kept_tree-returns-in-Group
kept_tree-returns-in-Group g t c = record { kept = rw (c.in-Group.is, tree_group) (c.group_of.ensures _ _ _ c.copied_places-columns.ensures c.functions-found.ensures c.boxed_tree-in-Group.ensures) }

pub kept_tree-returns-in-Project : goal.kept_tree-returns-in-Project
kept_tree-returns-in-Project g t c = record { kept = rw (c.in-Project.is, tree_project) (c.project_of.ensures _ _ c.expressions-items.ensures c.boxed_tree-in-Project.ensures) }

pub kept_tree-returns-in-Distinct : goal.kept_tree-returns-in-Distinct
kept_tree-returns-in-Distinct g t c = record { kept = rw (c.in-Distinct.is, tree_distinct) (c.distinct_of.ensures _ c.boxed_tree-in-Distinct.ensures) }

pub kept_tree-returns-in-Sort : goal.kept_tree-returns-in-Sort
kept_tree-returns-in-Sort g t c = record { kept = rw (c.in-Sort.is, tree_sort) (c.sort_of.ensures _ _ c.copied_keys-keys.ensures c.boxed_tree-in-Sort.ensures) }

pub kept_tree-returns-in-Member : goal.kept_tree-returns-in-Member
kept_tree-returns-in-Member g t c = record { kept = rw (c.in-Member.is, tree_member) (c.member_of.ensures _ _ _ c.boxed_expression-operand.ensures c.boxed_tree-members.ensures c.boxed_tree-in-Member.ensures) }

pub kept_tree-returns-in-Set : goal.kept_tree-returns-in-Set
kept_tree-returns-in-Set g t c = record { kept = rw (c.in-Set.is, tree_set) (c.set_of.ensures _ _ (rw c.get.ensures at c.boxed_chain-left.ensures) c.boxed_tree-right.ensures) }

pub boxed_chain-returns-in-Set : goal.boxed_chain-returns-in-Set
boxed_chain-returns-in-Set g t c = rw (c.in-Set.is, tree_set) (c.boxed.ensures _ (c.set_of.ensures _ _ (rw c.get.ensures at c.boxed_chain-left.ensures) c.boxed_tree-right.ensures))

pub boxed_chain-returns-in_default : goal.boxed_chain-returns-in_default
boxed_chain-returns-in_default g t c = c.boxed-in_default.ensures _ c.kept_tree.ensures.kept

pub kept_tree-returns-in-IndexLoop : goal.kept_tree-returns-in-IndexLoop
kept_tree-returns-in-IndexLoop g t c =
    record { kept = rw (c.in-IndexLoop.is, tree_index_loop) (c.index_loop_of.ensures _ _ (c.both-sides.ensures.first _ c.boxed_condition-on-in-IndexLoop.ensures) (c.both-sides.ensures.second _ c.boxed_tree-in-IndexLoop.ensures)) }

pub kept_tree-returns-in-HashJoin : goal.kept_tree-returns-in-HashJoin
kept_tree-returns-in-HashJoin g t c =
    record {
      kept = rw (c.in-HashJoin.is, tree_hash_join)
          (c.hash_join_of.ensures _ _ _ (c.three-sides.ensures.first _ c.boxed_condition-on-in-HashJoin.ensures) (c.three-sides.ensures.second _ c.boxed_tree-left-in-HashJoin.ensures) (c.three-sides.ensures.third _ c.boxed_tree-right-in-HashJoin.ensures));
    }
