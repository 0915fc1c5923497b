use Rattle.std.proofs.Common.{map, List, refl, flat_map}
use Rattle.std.proofs.lemmas.Result.{IfOk-from_err}
use Rattle.typing.specs.declared.typed.Arithmetic.{Arithmetic}
use Rattle.algebra.specs.declared.tree.Condition.{Condition}
use Rattle.algebra.specs.declared.tree.Expression.{Expression}
use Rattle.algebra.specs.declared.tree.SetFunction.{SetFunction}
use Rattle.tree_tables.specs.TablesRead.{all_names, tables_in_condition, tables_in_expression, tables_in_function}
use Rattle.tree_tables.proofs.Turns.{one_more, all_put}
use Rattle.tree_tables.proofs.Nodes.{condition_compare, condition_between, tree_inner, tree_left, tree_half, tree_opposite, tree_group, tree_set, tree_index_loop, tree_hash_join, tree_member, condition_and, condition_exists, condition_in_list, condition_in_query, condition_like, condition_not, condition_null, condition_or, condition_test, expression_calculation, expression_column, expression_concatenation, expression_constant, expression_negation, expression_scalar, function_over, function_rows, tree_distinct, tree_filter, tree_product, tree_project, tree_range, tree_scan, tree_seek, tree_sort}
use Rattle.tree_tables.proofs.names.+named.Goals as goal

pub tables_in_condition-returns-in-Compare : goal.tables_in_condition-returns-in-Compare
tables_in_condition-returns-in-Compare t c =
    record { named = rw (c.in-Compare.is, condition_compare, ← c.get-in-Compare.ensures, ← c.get-in-Compare-2.ensures) (c.joined.ensures _ _ c.tables_in_expression.ensures.named c.tables_in_expression-in-Compare.ensures.named) }

pub tables_in_condition-returns-in-Between : goal.tables_in_condition-returns-in-Between
tables_in_condition-returns-in-Between t c =
    record {
      named = rw (c.in-Between.is, condition_between, ← c.get-in-Between.ensures, ← c.get-in-Between-2.ensures, ← c.get-in-Between-3.ensures)
          (c.joined-in-Between.ensures _ _ c.tables_in_expression-in-Between-3.ensures.named (c.joined-bounds.ensures _ _ c.tables_in_expression-in-Between.ensures.named c.tables_in_expression-in-Between-2.ensures.named));
    }

pub tables_in_tree-returns-in-Inner : goal.tables_in_tree-returns-in-Inner
tables_in_tree-returns-in-Inner t c =
    record {
      named = rw (c.in-Inner.is, tree_inner, ← c.get-in-Inner.ensures, ← c.get-in-Inner-2.ensures, ← c.get-in-Inner-3.ensures)
          (c.joined-in-Inner.ensures _ _ c.tables_in_condition-in-Inner.ensures.named (c.joined-sides.ensures _ _ c.tables_in_tree-in-Inner.ensures.named c.tables_in_tree-in-Inner-2.ensures.named));
    }

pub tables_in_tree-returns-in-Left : goal.tables_in_tree-returns-in-Left
tables_in_tree-returns-in-Left t c =
    record {
      named = rw (c.in-Left.is, tree_left, ← c.get-in-Left.ensures, ← c.get-in-Left-2.ensures, ← c.get-in-Left-3.ensures)
          (c.joined-in-Left.ensures _ _ c.tables_in_condition-in-Left.ensures.named (c.joined-sides-in-Left.ensures _ _ c.tables_in_tree-in-Left.ensures.named c.tables_in_tree-in-Left-2.ensures.named));
    }

pub tables_in_tree-returns-in-Half : goal.tables_in_tree-returns-in-Half
tables_in_tree-returns-in-Half t c =
    record {
      named = rw (c.in-Half.is, tree_half, ← c.get-in-Half.ensures, ← c.get-in-Half-2.ensures, ← c.get-in-Half-3.ensures)
          (c.joined-in-Half.ensures _ _ c.tables_in_condition-in-Half.ensures.named (c.joined-sides-in-Half.ensures _ _ c.tables_in_tree-in-Half.ensures.named c.tables_in_tree-in-Half-2.ensures.named));
    }

pub tables_in_tree-returns-in-OppositeHalf : goal.tables_in_tree-returns-in-OppositeHalf
tables_in_tree-returns-in-OppositeHalf t c =
    record {
      named = rw (c.in-OppositeHalf.is, tree_opposite, ← c.get-in-OppositeHalf.ensures, ← c.get-in-OppositeHalf-2.ensures, ← c.get-in-OppositeHalf-3.ensures)
          (c.joined-in-OppositeHalf.ensures _ _ c.tables_in_condition-in-OppositeHalf.ensures.named (c.joined-sides-in-OppositeHalf.ensures _ _ c.tables_in_tree-in-OppositeHalf.ensures.named c.tables_in_tree-in-OppositeHalf-2.ensures.named));
    }

pub tables_in_tree-returns-in-HashJoin : goal.tables_in_tree-returns-in-HashJoin
tables_in_tree-returns-in-HashJoin t c =
    record {
      named = rw (c.in-HashJoin.is, tree_hash_join, ← c.get-in-HashJoin.ensures, ← c.get-in-HashJoin-2.ensures, ← c.get-in-HashJoin-3.ensures)
          (c.joined-in-HashJoin.ensures _ _ c.tables_in_condition-in-HashJoin.ensures.named (c.joined-sides-in-HashJoin.ensures _ _ c.tables_in_tree-in-HashJoin.ensures.named c.tables_in_tree-in-HashJoin-2.ensures.named));
    }

pub tables_in_tree-returns-in-Member : goal.tables_in_tree-returns-in-Member
tables_in_tree-returns-in-Member t c =
    record {
      named = rw (c.in-Member.is, tree_member, ← c.get-in-Member.ensures, ← c.get-in-Member-2.ensures, ← c.get-in-Member-3.ensures)
          (c.joined-in-Member.ensures _ _ c.tables_in_expression.ensures.named (c.joined-parts.ensures _ _ c.tables_in_tree-in-Member.ensures.named c.tables_in_tree-in-Member-2.ensures.named));
    }

pub tables_in_tree-returns-in-IndexLoop : goal.tables_in_tree-returns-in-IndexLoop
tables_in_tree-returns-in-IndexLoop t c =
    record {
      named = rw (c.in-IndexLoop.is, tree_index_loop, ← c.get-in-IndexLoop.ensures, ← c.get-in-IndexLoop-2.ensures)
          (c.joined-in-IndexLoop.ensures _ _ c.tables_in_condition-in-IndexLoop.ensures.named (c.joined-sides-in-IndexLoop.ensures _ _ c.tables_in_tree-in-IndexLoop.ensures.named c.named-in-IndexLoop.ensures));
    }

pub tables_in_tree-returns-in-Group : goal.tables_in_tree-returns-in-Group
tables_in_tree-returns-in-Group t c =
    record { named = rw (c.in-Group.is, tree_group, ← c.as_slice.ensures, ← c.get-in-Group.ensures) (c.joined-in-Group.ensures _ _ c.tables_in_functions.ensures.named c.tables_in_tree-in-Group.ensures.named) }

pub tables_in_tree-returns-in-Set : goal.tables_in_tree-returns-in-Set
tables_in_tree-returns-in-Set t c =
    record { named = rw (c.in-Set.is, tree_set, ← c.get-in-Set.ensures, ← c.get-in-Set-2.ensures) (c.joined-in-Set.ensures _ _ c.tables_in_tree-in-Set.ensures.named c.tables_in_tree-in-Set-2.ensures.named) }

pub tables_in_condition-returns-in-Or : goal.tables_in_condition-returns-in-Or
tables_in_condition-returns-in-Or t c =
    record { named = rw (c.in-Or.is, condition_or, ← c.as_slice.ensures) c.tables_in_conditions.ensures.named }

pub tables_in_condition-returns-in-And : goal.tables_in_condition-returns-in-And
tables_in_condition-returns-in-And t c =
    record { named = rw (c.in-And.is, condition_and, ← c.as_slice-in-And.ensures) c.tables_in_conditions-in-And.ensures.named }

pub tables_in_condition-returns-in-Not : goal.tables_in_condition-returns-in-Not
tables_in_condition-returns-in-Not t c =
    record { named = rw (c.in-Not.is, condition_not, ← c.get.ensures) c.tables_in_condition.ensures.named }

pub tables_in_condition-returns-in-IsTruth : goal.tables_in_condition-returns-in-IsTruth
tables_in_condition-returns-in-IsTruth t c =
    record { named = rw (c.in-IsTruth.is, condition_test, ← c.get-in-IsTruth.ensures) c.tables_in_condition-in-IsTruth.ensures.named }

pub tables_in_condition-returns-in-InList : goal.tables_in_condition-returns-in-InList
tables_in_condition-returns-in-InList t c =
    record { named = rw (c.in-InList.is, condition_in_list, ← c.get-in-InList.ensures) c.tables_in_expression-in-InList.ensures.named }

pub tables_in_condition-returns-in-InQuery : goal.tables_in_condition-returns-in-InQuery
tables_in_condition-returns-in-InQuery t c =
    record { named = rw (c.in-InQuery.is, condition_in_query, ← c.get-in-InQuery.ensures, ← c.get-in-InQuery-2.ensures) (c.joined-in-InQuery.ensures _ _ c.tables_in_expression-in-InQuery.ensures.named c.tables_in_tree.ensures.named) }

pub tables_in_condition-returns-in-Like : goal.tables_in_condition-returns-in-Like
tables_in_condition-returns-in-Like t c =
    record { named = rw (c.in-Like.is, condition_like, ← c.get-in-Like.ensures, ← c.get-in-Like-2.ensures) (c.joined-in-Like.ensures _ _ c.tables_in_expression-in-Like.ensures.named c.tables_in_expression-in-Like-2.ensures.named) }

pub tables_in_condition-returns-in-IsNull : goal.tables_in_condition-returns-in-IsNull
tables_in_condition-returns-in-IsNull t c =
    record { named = rw (c.in-IsNull.is, condition_null, ← c.get-in-IsNull.ensures) c.tables_in_expression-in-IsNull.ensures.named }

pub tables_in_condition-returns-in-Exists : goal.tables_in_condition-returns-in-Exists
tables_in_condition-returns-in-Exists t c =
    record { named = rw (c.in-Exists.is, condition_exists, ← c.get-in-Exists.ensures) c.tables_in_tree-in-Exists.ensures.named }

pub tables_in_expression-returns-in-Constant : goal.tables_in_expression-returns-in-Constant
tables_in_expression-returns-in-Constant t c =
    record { named = rw (c.in-Constant.is, expression_constant) c.new.ensures }

pub tables_in_expression-returns-in-Column : goal.tables_in_expression-returns-in-Column
tables_in_expression-returns-in-Column t c =
    record { named = rw (c.in-Column.is, expression_column) c.new-in-Column.ensures }

pub tables_in_expression-returns-in-Calculation : goal.tables_in_expression-returns-in-Calculation
tables_in_expression-returns-in-Calculation t c =
    record { named = rw (c.in-Calculation.is, expression_calculation, ← c.get.ensures, ← c.as_slice.ensures) (c.joined.ensures _ _ c.tables_in_expression.ensures.named c.tables_in_operands.ensures.named) }

pub tables_in_expression-returns-in-Concatenation : goal.tables_in_expression-returns-in-Concatenation
tables_in_expression-returns-in-Concatenation t c =
    record { named = rw (c.in-Concatenation.is, expression_concatenation, ← c.get-in-Concatenation.ensures, ← c.as_slice-in-Concatenation.ensures) (c.joined-in-Concatenation.ensures _ _ c.tables_in_expression-in-Concatenation.ensures.named c.tables_in_expressions.ensures.named) }

pub tables_in_expression-returns-in-Negation : goal.tables_in_expression-returns-in-Negation
tables_in_expression-returns-in-Negation t c =
    record { named = rw (c.in-Negation.is, expression_negation, ← c.get-in-Negation.ensures) c.tables_in_expression-in-Negation.ensures.named }

pub tables_in_expression-returns-in-Scalar : goal.tables_in_expression-returns-in-Scalar
tables_in_expression-returns-in-Scalar t c =
    record { named = rw (c.in-Scalar.is, expression_scalar, ← c.get-in-Scalar.ensures) c.tables_in_tree.ensures.named }

pub tables_in_function-returns-in-CountRows : goal.tables_in_function-returns-in-CountRows
tables_in_function-returns-in-CountRows t c =
    record { named = rw (c.in-CountRows.is, function_rows) c.new.ensures }

pub tables_in_function-returns-in-Over : goal.tables_in_function-returns-in-Over
tables_in_function-returns-in-Over t c =
    record { named = rw (c.in-Over.is, function_over) c.tables_in_expression.ensures.named }

pub tables_in_tree-returns-in-Scan : goal.tables_in_tree-returns-in-Scan
tables_in_tree-returns-in-Scan t c =
    record { named = rw (c.in-Scan.is, tree_scan) c.named.ensures }

pub tables_in_tree-returns-in-Filter : goal.tables_in_tree-returns-in-Filter
tables_in_tree-returns-in-Filter t c =
    record { named = rw (c.in-Filter.is, tree_filter, ← c.get.ensures, ← c.get-in-Filter.ensures) (c.joined.ensures _ _ c.tables_in_condition.ensures.named c.tables_in_tree.ensures.named) }

pub tables_in_tree-returns-in-Product : goal.tables_in_tree-returns-in-Product
tables_in_tree-returns-in-Product t c =
    record { named = rw (c.in-Product.is, tree_product, ← c.get-in-Product.ensures, ← c.get-in-Product-2.ensures) (c.joined-in-Product.ensures _ _ c.tables_in_tree-in-Product.ensures.named c.tables_in_tree-in-Product-2.ensures.named) }

pub tables_in_tree-returns-in-Project : goal.tables_in_tree-returns-in-Project
tables_in_tree-returns-in-Project t c =
    record { named = rw (c.in-Project.is, tree_project, ← c.as_slice-in-Project.ensures, ← c.get-in-Project.ensures) (c.joined-in-Project.ensures _ _ c.tables_in_expressions.ensures.named c.tables_in_tree-in-Project.ensures.named) }

pub tables_in_tree-returns-in-Distinct : goal.tables_in_tree-returns-in-Distinct
tables_in_tree-returns-in-Distinct t c =
    record { named = rw (c.in-Distinct.is, tree_distinct, ← c.get-in-Distinct.ensures) c.tables_in_tree-in-Distinct.ensures.named }

pub tables_in_tree-returns-in-Sort : goal.tables_in_tree-returns-in-Sort
tables_in_tree-returns-in-Sort t c =
    record { named = rw (c.in-Sort.is, tree_sort, ← c.get-in-Sort.ensures) c.tables_in_tree-in-Sort.ensures.named }

pub tables_in_tree-returns-in-Seek : goal.tables_in_tree-returns-in-Seek
tables_in_tree-returns-in-Seek t c =
    record { named = rw (c.in-Seek.is, tree_seek) c.named-in-Seek.ensures }

pub tables_in_tree-returns-in-Range : goal.tables_in_tree-returns-in-Range
tables_in_tree-returns-in-Range t c =
    record { named = rw (c.in-Range.is, tree_range) c.named-in-Range.ensures }

pub tables_in_conditions-loop-operand-preserved : goal.tables_in_conditions-loop-operand-preserved
tables_in_conditions-loop-operand-preserved t c =
    rw (c.in_ok-append.ensures.ok)
    (one_more (λ (xs : List Condition). all_names (map tables_in_condition xs)) tables_in_condition (λ _ _. refl) c.args.operands.now _ _ _ _
    c.loop-operand-test.true c.operand-item.is c.in_ok-tables_in_condition.ensures.named c.loop-operand.invariant)

pub tables_in_expressions-loop-item-preserved : goal.tables_in_expressions-loop-item-preserved
tables_in_expressions-loop-item-preserved t c =
    rw (c.in_ok-append.ensures.ok)
    (one_more (λ (xs : List Expression). all_names (map tables_in_expression xs)) tables_in_expression (λ _ _. refl) c.args.items.now _ _ _ _
    c.loop-item-test.true c.item-item.is c.in_ok-tables_in_expression.ensures.named c.loop-item.invariant)

pub tables_in_functions-loop-function-preserved : goal.tables_in_functions-loop-function-preserved
tables_in_functions-loop-function-preserved t c =
    rw (c.in_ok-append.ensures.ok)
    (one_more (λ (xs : List SetFunction). all_names (map tables_in_function xs)) tables_in_function (λ _ _. refl) c.args.functions.now _ _ _ _
    c.loop-function-test.true c.function-item.is c.in_ok-tables_in_function.ensures.named c.loop-function.invariant)

pub tables_in_operands-loop-operand-preserved : goal.tables_in_operands-loop-operand-preserved
tables_in_operands-loop-operand-preserved t c =
    rw (c.in_ok-append.ensures.ok)
    (one_more (flat_map (λ (other : Arithmetic × Expression). tables_in_expression other.1)) (λ (other : Arithmetic × Expression). tables_in_expression other.1) (λ _ _. refl) c.args.others.now _ _ _ _
    c.loop-operand-test.true c.loop-operand-item.is c.in_ok-tables_in_expression.ensures.named c.loop-operand.invariant)

pub tables_in_conditions-loop-operand-init : goal.tables_in_conditions-loop-operand-init
tables_in_conditions-loop-operand-init t c = rw (c.new-names.ensures)

pub tables_in_conditions-returns-in_err-tables_in_condition : goal.tables_in_conditions-returns-in_err-tables_in_condition
tables_in_conditions-returns-in_err-tables_in_condition t c = record { named = IfOk-from_err c.from_residual.result _ c.from_residual.ensures.0 }

pub tables_in_conditions-returns-in_err-append : goal.tables_in_conditions-returns-in_err-append
tables_in_conditions-returns-in_err-append t c = record { named = IfOk-from_err c.from_residual-in_err-append.result _ c.from_residual-in_err-append.ensures.0 }

pub tables_in_conditions-returns : goal.tables_in_conditions-returns
tables_in_conditions-returns t c = record { named = all_put (λ (xs : List Condition). all_names (map tables_in_condition xs)) refl c.args.operands.now _ _ c.loop-operand-test.false c.loop-operand.invariant }

pub tables_in_expressions-loop-item-init : goal.tables_in_expressions-loop-item-init
tables_in_expressions-loop-item-init t c = rw (c.new-names.ensures)

pub tables_in_expressions-returns-in_err-tables_in_expression : goal.tables_in_expressions-returns-in_err-tables_in_expression
tables_in_expressions-returns-in_err-tables_in_expression t c = record { named = IfOk-from_err c.from_residual.result _ c.from_residual.ensures.0 }

pub tables_in_expressions-returns-in_err-append : goal.tables_in_expressions-returns-in_err-append
tables_in_expressions-returns-in_err-append t c = record { named = IfOk-from_err c.from_residual-in_err-append.result _ c.from_residual-in_err-append.ensures.0 }

pub tables_in_expressions-returns : goal.tables_in_expressions-returns
tables_in_expressions-returns t c = record { named = all_put (λ (xs : List Expression). all_names (map tables_in_expression xs)) refl c.args.items.now _ _ c.loop-item-test.false c.loop-item.invariant }

pub tables_in_functions-loop-function-init : goal.tables_in_functions-loop-function-init
tables_in_functions-loop-function-init t c = rw (c.new-names.ensures)

pub tables_in_functions-returns-in_err-tables_in_function : goal.tables_in_functions-returns-in_err-tables_in_function
tables_in_functions-returns-in_err-tables_in_function t c = record { named = IfOk-from_err c.from_residual.result _ c.from_residual.ensures.0 }

pub tables_in_functions-returns-in_err-append : goal.tables_in_functions-returns-in_err-append
tables_in_functions-returns-in_err-append t c = record { named = IfOk-from_err c.from_residual-in_err-append.result _ c.from_residual-in_err-append.ensures.0 }

pub tables_in_functions-returns : goal.tables_in_functions-returns
tables_in_functions-returns t c = record { named = all_put (λ (xs : List SetFunction). all_names (map tables_in_function xs)) refl c.args.functions.now _ _ c.loop-function-test.false c.loop-function.invariant }

pub tables_in_operands-loop-operand-init : goal.tables_in_operands-loop-operand-init
tables_in_operands-loop-operand-init t c = rw (c.new-names.ensures)

pub tables_in_operands-returns-in_err-tables_in_expression : goal.tables_in_operands-returns-in_err-tables_in_expression
tables_in_operands-returns-in_err-tables_in_expression t c = record { named = IfOk-from_err c.from_residual.result _ c.from_residual.ensures.0 }

pub tables_in_operands-returns-in_err-append : goal.tables_in_operands-returns-in_err-append
tables_in_operands-returns-in_err-append t c = record { named = IfOk-from_err c.from_residual-in_err-append.result _ c.from_residual-in_err-append.ensures.0 }

pub tables_in_operands-returns : goal.tables_in_operands-returns
tables_in_operands-returns t c = record { named = all_put (flat_map (λ (other : Arithmetic × Expression). tables_in_expression other.1)) refl c.args.others.now _ _ c.loop-operand-test.false c.loop-operand.invariant }
