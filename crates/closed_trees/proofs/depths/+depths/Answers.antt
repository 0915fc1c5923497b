use Rattle.std.proofs.Common.{map, List, refl, flat_map}
use Rattle.std.proofs.lemmas.Result.{IfOk-from_err}
use Rattle.typing.specs.declared.typed.Arithmetic.{Arithmetic}
use Rattle.algebra.specs.declared.tree.Condition.{Condition}
use Rattle.algebra.specs.declared.tree.Expression.{Expression}
use Rattle.algebra.specs.declared.tree.SetFunction.{SetFunction}
use Rattle.closed_trees.specs.Outside.{all_depths, depths_in_condition, depths_in_expression, depths_in_function}
use Rattle.closed_trees.proofs.Turns.{one_more, all_put}
use Rattle.closed_trees.proofs.Nodes.{condition_compare, condition_between, tree_filter, tree_project, tree_inner, tree_left, tree_half, tree_opposite, tree_group, tree_set, tree_index_loop, tree_hash_join, tree_member, condition_and, condition_exists, condition_in_list, condition_in_query, condition_like, condition_not, condition_null, condition_or, condition_test, expression_calculation, expression_column, expression_concatenation, expression_constant, expression_negation, expression_scalar, function_over, function_rows, tree_distinct, tree_product, tree_range, tree_scan, tree_seek, tree_sort}
use Rattle.closed_trees.proofs.depths.+depths.Goals as goal

pub depths_in_condition-returns-in-Compare : goal.depths_in_condition-returns-in-Compare
depths_in_condition-returns-in-Compare t c =
    record { depths = rw (c.in-Compare.is, condition_compare, ← c.get-in-Compare.ensures, ← c.get-in-Compare-2.ensures) (c.joined.ensures _ _ c.depths_in_expression.ensures.depths c.depths_in_expression-in-Compare.ensures.depths) }

pub depths_in_condition-returns-in-Between : goal.depths_in_condition-returns-in-Between
depths_in_condition-returns-in-Between t c =
    record {
      depths = rw (c.in-Between.is, condition_between, ← c.get-in-Between.ensures, ← c.get-in-Between-2.ensures, ← c.get-in-Between-3.ensures)
          (c.joined-in-Between.ensures _ _ c.depths_in_expression-in-Between-3.ensures.depths (c.joined-bounds.ensures _ _ c.depths_in_expression-in-Between.ensures.depths c.depths_in_expression-in-Between-2.ensures.depths));
    }

pub depths_in_tree-returns-in-Inner : goal.depths_in_tree-returns-in-Inner
depths_in_tree-returns-in-Inner t c =
    record {
      depths = rw (c.in-Inner.is, tree_inner, ← c.get-in-Inner.ensures, ← c.get-in-Inner-2.ensures, ← c.get-in-Inner-3.ensures)
          (c.joined-in-Inner.ensures _ _ (c.inside-in-Inner.ensures _ c.depths_in_condition-in-Inner.ensures.depths) (c.joined-sides.ensures _ _ c.depths_in_tree-in-Inner.ensures.depths c.depths_in_tree-in-Inner-2.ensures.depths));
    }

pub depths_in_tree-returns-in-Left : goal.depths_in_tree-returns-in-Left
depths_in_tree-returns-in-Left t c =
    record {
      depths = rw (c.in-Left.is, tree_left, ← c.get-in-Left.ensures, ← c.get-in-Left-2.ensures, ← c.get-in-Left-3.ensures)
          (c.joined-in-Left.ensures _ _ (c.inside-in-Left.ensures _ c.depths_in_condition-in-Left.ensures.depths) (c.joined-sides-in-Left.ensures _ _ c.depths_in_tree-in-Left.ensures.depths c.depths_in_tree-in-Left-2.ensures.depths));
    }

pub depths_in_tree-returns-in-Half : goal.depths_in_tree-returns-in-Half
depths_in_tree-returns-in-Half t c =
    record {
      depths = rw (c.in-Half.is, tree_half, ← c.get-in-Half.ensures, ← c.get-in-Half-2.ensures, ← c.get-in-Half-3.ensures)
          (c.joined-in-Half.ensures _ _ (c.inside-in-Half.ensures _ c.depths_in_condition-in-Half.ensures.depths) (c.joined-sides-in-Half.ensures _ _ c.depths_in_tree-in-Half.ensures.depths c.depths_in_tree-in-Half-2.ensures.depths));
    }

pub depths_in_tree-returns-in-OppositeHalf : goal.depths_in_tree-returns-in-OppositeHalf
depths_in_tree-returns-in-OppositeHalf t c =
    record {
      depths = rw (c.in-OppositeHalf.is, tree_opposite, ← c.get-in-OppositeHalf.ensures, ← c.get-in-OppositeHalf-2.ensures, ← c.get-in-OppositeHalf-3.ensures)
          (c.joined-in-OppositeHalf.ensures _ _ (c.inside-in-OppositeHalf.ensures _ c.depths_in_condition-in-OppositeHalf.ensures.depths) (c.joined-sides-in-OppositeHalf.ensures _ _ c.depths_in_tree-in-OppositeHalf.ensures.depths c.depths_in_tree-in-OppositeHalf-2.ensures.depths));
    }

pub depths_in_tree-returns-in-HashJoin : goal.depths_in_tree-returns-in-HashJoin
depths_in_tree-returns-in-HashJoin t c =
    record {
      depths = rw (c.in-HashJoin.is, tree_hash_join, ← c.get-in-HashJoin.ensures, ← c.get-in-HashJoin-2.ensures, ← c.get-in-HashJoin-3.ensures)
          (c.joined-in-HashJoin.ensures _ _ (c.inside-in-HashJoin.ensures _ c.depths_in_condition-in-HashJoin.ensures.depths) (c.joined-sides-in-HashJoin.ensures _ _ c.depths_in_tree-in-HashJoin.ensures.depths c.depths_in_tree-in-HashJoin-2.ensures.depths));
    }

pub depths_in_tree-returns-in-Member : goal.depths_in_tree-returns-in-Member
depths_in_tree-returns-in-Member t c =
    record {
      depths = rw (c.in-Member.is, tree_member, ← c.get-in-Member.ensures, ← c.get-in-Member-2.ensures, ← c.get-in-Member-3.ensures)
          (c.joined-in-Member.ensures _ _ (c.inside-in-Member.ensures _ c.depths_in_expression.ensures.depths) (c.joined-parts.ensures _ _ c.depths_in_tree-in-Member.ensures.depths c.depths_in_tree-in-Member-2.ensures.depths));
    }

pub depths_in_tree-returns-in-IndexLoop : goal.depths_in_tree-returns-in-IndexLoop
depths_in_tree-returns-in-IndexLoop t c =
    record {
      depths = rw (c.in-IndexLoop.is, tree_index_loop, ← c.get-in-IndexLoop.ensures, ← c.get-in-IndexLoop-2.ensures)
          (c.joined-in-IndexLoop.ensures _ _ (c.inside-in-IndexLoop.ensures _ c.depths_in_condition-in-IndexLoop.ensures.depths) c.depths_in_tree-in-IndexLoop.ensures.depths);
    }

pub depths_in_tree-returns-in-Group : goal.depths_in_tree-returns-in-Group
depths_in_tree-returns-in-Group t c =
    record { depths = rw (c.in-Group.is, tree_group, ← c.as_slice.ensures, ← c.get-in-Group.ensures) (c.joined-in-Group.ensures _ _ (c.inside-in-Group.ensures _ c.depths_in_functions.ensures.depths) c.depths_in_tree-in-Group.ensures.depths) }

pub depths_in_tree-returns-in-Set : goal.depths_in_tree-returns-in-Set
depths_in_tree-returns-in-Set t c =
    record { depths = rw (c.in-Set.is, tree_set, ← c.get-in-Set.ensures, ← c.get-in-Set-2.ensures) (c.joined-in-Set.ensures _ _ c.depths_in_tree-in-Set.ensures.depths c.depths_in_tree-in-Set-2.ensures.depths) }

pub depths_in_tree-returns-in-Filter : goal.depths_in_tree-returns-in-Filter
depths_in_tree-returns-in-Filter t c =
    record { depths = rw (c.in-Filter.is, tree_filter, ← c.get.ensures, ← c.get-in-Filter.ensures) (c.joined.ensures _ _ (c.inside.ensures _ c.depths_in_condition.ensures.depths) c.depths_in_tree.ensures.depths) }

pub depths_in_tree-returns-in-Project : goal.depths_in_tree-returns-in-Project
depths_in_tree-returns-in-Project t c =
    record { depths = rw (c.in-Project.is, tree_project, ← c.as_slice-in-Project.ensures, ← c.get-in-Project.ensures) (c.joined-in-Project.ensures _ _ (c.inside-in-Project.ensures _ c.depths_in_expressions.ensures.depths) c.depths_in_tree-in-Project.ensures.depths) }

pub depths_in_condition-returns-in-Or : goal.depths_in_condition-returns-in-Or
depths_in_condition-returns-in-Or t c =
    record { depths = rw (c.in-Or.is, condition_or, ← c.as_slice.ensures) c.depths_in_conditions.ensures.depths }

pub depths_in_condition-returns-in-And : goal.depths_in_condition-returns-in-And
depths_in_condition-returns-in-And t c =
    record { depths = rw (c.in-And.is, condition_and, ← c.as_slice-in-And.ensures) c.depths_in_conditions-in-And.ensures.depths }

pub depths_in_condition-returns-in-Not : goal.depths_in_condition-returns-in-Not
depths_in_condition-returns-in-Not t c =
    record { depths = rw (c.in-Not.is, condition_not, ← c.get.ensures) c.depths_in_condition.ensures.depths }

pub depths_in_condition-returns-in-IsTruth : goal.depths_in_condition-returns-in-IsTruth
depths_in_condition-returns-in-IsTruth t c =
    record { depths = rw (c.in-IsTruth.is, condition_test, ← c.get-in-IsTruth.ensures) c.depths_in_condition-in-IsTruth.ensures.depths }

pub depths_in_condition-returns-in-InList : goal.depths_in_condition-returns-in-InList
depths_in_condition-returns-in-InList t c =
    record { depths = rw (c.in-InList.is, condition_in_list, ← c.get-in-InList.ensures) c.depths_in_expression-in-InList.ensures.depths }

pub depths_in_condition-returns-in-InQuery : goal.depths_in_condition-returns-in-InQuery
depths_in_condition-returns-in-InQuery t c =
    record { depths = rw (c.in-InQuery.is, condition_in_query, ← c.get-in-InQuery.ensures, ← c.get-in-InQuery-2.ensures) (c.joined-in-InQuery.ensures _ _ c.depths_in_expression-in-InQuery.ensures.depths c.depths_in_tree.ensures.depths) }

pub depths_in_condition-returns-in-Like : goal.depths_in_condition-returns-in-Like
depths_in_condition-returns-in-Like t c =
    record { depths = rw (c.in-Like.is, condition_like, ← c.get-in-Like.ensures, ← c.get-in-Like-2.ensures) (c.joined-in-Like.ensures _ _ c.depths_in_expression-in-Like.ensures.depths c.depths_in_expression-in-Like-2.ensures.depths) }

pub depths_in_condition-returns-in-IsNull : goal.depths_in_condition-returns-in-IsNull
depths_in_condition-returns-in-IsNull t c =
    record { depths = rw (c.in-IsNull.is, condition_null, ← c.get-in-IsNull.ensures) c.depths_in_expression-in-IsNull.ensures.depths }

pub depths_in_condition-returns-in-Exists : goal.depths_in_condition-returns-in-Exists
depths_in_condition-returns-in-Exists t c =
    record { depths = rw (c.in-Exists.is, condition_exists, ← c.get-in-Exists.ensures) c.depths_in_tree-in-Exists.ensures.depths }

pub depths_in_expression-returns-in-Constant : goal.depths_in_expression-returns-in-Constant
depths_in_expression-returns-in-Constant t c =
    record { depths = rw (c.in-Constant.is, expression_constant) c.new.ensures }

pub depths_in_expression-returns-in-Column : goal.depths_in_expression-returns-in-Column
depths_in_expression-returns-in-Column t c =
    record { depths = rw (c.in-Column.is, expression_column) c.one_depth.ensures }

pub depths_in_expression-returns-in-Calculation : goal.depths_in_expression-returns-in-Calculation
depths_in_expression-returns-in-Calculation t c =
    record { depths = rw (c.in-Calculation.is, expression_calculation, ← c.get.ensures, ← c.as_slice.ensures) (c.joined.ensures _ _ c.depths_in_expression.ensures.depths c.depths_in_operands.ensures.depths) }

pub depths_in_expression-returns-in-Concatenation : goal.depths_in_expression-returns-in-Concatenation
depths_in_expression-returns-in-Concatenation t c =
    record { depths = rw (c.in-Concatenation.is, expression_concatenation, ← c.get-in-Concatenation.ensures, ← c.as_slice-in-Concatenation.ensures) (c.joined-in-Concatenation.ensures _ _ c.depths_in_expression-in-Concatenation.ensures.depths c.depths_in_expressions.ensures.depths) }

pub depths_in_expression-returns-in-Negation : goal.depths_in_expression-returns-in-Negation
depths_in_expression-returns-in-Negation t c =
    record { depths = rw (c.in-Negation.is, expression_negation, ← c.get-in-Negation.ensures) c.depths_in_expression-in-Negation.ensures.depths }

pub depths_in_expression-returns-in-Scalar : goal.depths_in_expression-returns-in-Scalar
depths_in_expression-returns-in-Scalar t c =
    record { depths = rw (c.in-Scalar.is, expression_scalar, ← c.get-in-Scalar.ensures) c.depths_in_tree.ensures.depths }

pub depths_in_function-returns-in-CountRows : goal.depths_in_function-returns-in-CountRows
depths_in_function-returns-in-CountRows t c =
    record { depths = rw (c.in-CountRows.is, function_rows) c.new.ensures }

pub depths_in_function-returns-in-Over : goal.depths_in_function-returns-in-Over
depths_in_function-returns-in-Over t c =
    record { depths = rw (c.in-Over.is, function_over) c.depths_in_expression.ensures.depths }

pub depths_in_tree-returns-in-Scan : goal.depths_in_tree-returns-in-Scan
depths_in_tree-returns-in-Scan t c =
    record { depths = rw (c.in-Scan.is, tree_scan) c.new.ensures }

pub depths_in_tree-returns-in-Product : goal.depths_in_tree-returns-in-Product
depths_in_tree-returns-in-Product t c =
    record { depths = rw (c.in-Product.is, tree_product, ← c.get-in-Product.ensures, ← c.get-in-Product-2.ensures) (c.joined-in-Product.ensures _ _ c.depths_in_tree-in-Product.ensures.depths c.depths_in_tree-in-Product-2.ensures.depths) }

pub depths_in_tree-returns-in-Distinct : goal.depths_in_tree-returns-in-Distinct
depths_in_tree-returns-in-Distinct t c =
    record { depths = rw (c.in-Distinct.is, tree_distinct, ← c.get-in-Distinct.ensures) c.depths_in_tree-in-Distinct.ensures.depths }

pub depths_in_tree-returns-in-Sort : goal.depths_in_tree-returns-in-Sort
depths_in_tree-returns-in-Sort t c =
    record { depths = rw (c.in-Sort.is, tree_sort, ← c.get-in-Sort.ensures) c.depths_in_tree-in-Sort.ensures.depths }

pub depths_in_tree-returns-in-Seek : goal.depths_in_tree-returns-in-Seek
depths_in_tree-returns-in-Seek t c =
    record { depths = rw (c.in-Seek.is, tree_seek) c.new-in-Seek.ensures }

pub depths_in_tree-returns-in-Range : goal.depths_in_tree-returns-in-Range
depths_in_tree-returns-in-Range t c =
    record { depths = rw (c.in-Range.is, tree_range) c.new-in-Range.ensures }

pub depths_in_conditions-loop-operand-preserved : goal.depths_in_conditions-loop-operand-preserved
depths_in_conditions-loop-operand-preserved t c =
    rw (c.in_ok-append.ensures.ok)
    (one_more (λ (xs : List Condition). all_depths (map depths_in_condition xs)) depths_in_condition (λ _ _. refl) c.args.operands.now _ _ _ _
    c.loop-operand-test.true c.operand-item.is c.in_ok-depths_in_condition.ensures.depths c.loop-operand.invariant)

pub depths_in_expressions-loop-item-preserved : goal.depths_in_expressions-loop-item-preserved
depths_in_expressions-loop-item-preserved t c =
    rw (c.in_ok-append.ensures.ok)
    (one_more (λ (xs : List Expression). all_depths (map depths_in_expression xs)) depths_in_expression (λ _ _. refl) c.args.items.now _ _ _ _
    c.loop-item-test.true c.item-item.is c.in_ok-depths_in_expression.ensures.depths c.loop-item.invariant)

pub depths_in_functions-loop-function-preserved : goal.depths_in_functions-loop-function-preserved
depths_in_functions-loop-function-preserved t c =
    rw (c.in_ok-append.ensures.ok)
    (one_more (λ (xs : List SetFunction). all_depths (map depths_in_function xs)) depths_in_function (λ _ _. refl) c.args.functions.now _ _ _ _
    c.loop-function-test.true c.function-item.is c.in_ok-depths_in_function.ensures.depths c.loop-function.invariant)

pub depths_in_operands-loop-operand-preserved : goal.depths_in_operands-loop-operand-preserved
depths_in_operands-loop-operand-preserved t c =
    rw (c.in_ok-append.ensures.ok)
    (one_more (flat_map (λ (other : Arithmetic × Expression). depths_in_expression other.1)) (λ (other : Arithmetic × Expression). depths_in_expression other.1) (λ _ _. refl) c.args.others.now _ _ _ _
    c.loop-operand-test.true c.loop-operand-item.is c.in_ok-depths_in_expression.ensures.depths c.loop-operand.invariant)

pub depths_in_conditions-loop-operand-init : goal.depths_in_conditions-loop-operand-init
depths_in_conditions-loop-operand-init t c = rw (c.new-depths.ensures)

pub depths_in_conditions-returns-in_err-depths_in_condition : goal.depths_in_conditions-returns-in_err-depths_in_condition
depths_in_conditions-returns-in_err-depths_in_condition t c = record { depths = IfOk-from_err c.from_residual.result _ c.from_residual.ensures.0 }

pub depths_in_conditions-returns-in_err-append : goal.depths_in_conditions-returns-in_err-append
depths_in_conditions-returns-in_err-append t c = record { depths = IfOk-from_err c.from_residual-in_err-append.result _ c.from_residual-in_err-append.ensures.0 }

pub depths_in_conditions-returns : goal.depths_in_conditions-returns
depths_in_conditions-returns t c = record { depths = all_put (λ (xs : List Condition). all_depths (map depths_in_condition xs)) refl c.args.operands.now _ _ c.loop-operand-test.false c.loop-operand.invariant }

pub depths_in_expressions-loop-item-init : goal.depths_in_expressions-loop-item-init
depths_in_expressions-loop-item-init t c = rw (c.new-depths.ensures)

pub depths_in_expressions-returns-in_err-depths_in_expression : goal.depths_in_expressions-returns-in_err-depths_in_expression
depths_in_expressions-returns-in_err-depths_in_expression t c = record { depths = IfOk-from_err c.from_residual.result _ c.from_residual.ensures.0 }

pub depths_in_expressions-returns-in_err-append : goal.depths_in_expressions-returns-in_err-append
depths_in_expressions-returns-in_err-append t c = record { depths = IfOk-from_err c.from_residual-in_err-append.result _ c.from_residual-in_err-append.ensures.0 }

pub depths_in_expressions-returns : goal.depths_in_expressions-returns
depths_in_expressions-returns t c = record { depths = all_put (λ (xs : List Expression). all_depths (map depths_in_expression xs)) refl c.args.items.now _ _ c.loop-item-test.false c.loop-item.invariant }

pub depths_in_functions-loop-function-init : goal.depths_in_functions-loop-function-init
depths_in_functions-loop-function-init t c = rw (c.new-depths.ensures)

pub depths_in_functions-returns-in_err-depths_in_function : goal.depths_in_functions-returns-in_err-depths_in_function
depths_in_functions-returns-in_err-depths_in_function t c = record { depths = IfOk-from_err c.from_residual.result _ c.from_residual.ensures.0 }

pub depths_in_functions-returns-in_err-append : goal.depths_in_functions-returns-in_err-append
depths_in_functions-returns-in_err-append t c = record { depths = IfOk-from_err c.from_residual-in_err-append.result _ c.from_residual-in_err-append.ensures.0 }

pub depths_in_functions-returns : goal.depths_in_functions-returns
depths_in_functions-returns t c = record { depths = all_put (λ (xs : List SetFunction). all_depths (map depths_in_function xs)) refl c.args.functions.now _ _ c.loop-function-test.false c.loop-function.invariant }

pub depths_in_operands-loop-operand-init : goal.depths_in_operands-loop-operand-init
depths_in_operands-loop-operand-init t c = rw (c.new-depths.ensures)

pub depths_in_operands-returns-in_err-depths_in_expression : goal.depths_in_operands-returns-in_err-depths_in_expression
depths_in_operands-returns-in_err-depths_in_expression t c = record { depths = IfOk-from_err c.from_residual.result _ c.from_residual.ensures.0 }

pub depths_in_operands-returns-in_err-append : goal.depths_in_operands-returns-in_err-append
depths_in_operands-returns-in_err-append t c = record { depths = IfOk-from_err c.from_residual-in_err-append.result _ c.from_residual-in_err-append.ensures.0 }

pub depths_in_operands-returns : goal.depths_in_operands-returns
depths_in_operands-returns t c = record { depths = all_put (flat_map (λ (other : Arithmetic × Expression). depths_in_expression other.1)) refl c.args.others.now _ _ c.loop-operand-test.false c.loop-operand.invariant }
