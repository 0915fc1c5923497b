-- The trees of a typed condition and of an expression mean what these do, and tables that fit the
-- trees of all queries fit them: by induction over conditions and expressions, since both hold of
-- queries.
use Rattle.std.proofs.Common.{◌≡◌, refl, sym, ◌∙◌, subst, ap, ℕ, List, [], ◌∷◌, ◌++◌, map, flat_map, ◌⊎◌, inl, inr, arith}
use Rattle.std.specs.Prelude.{Contains}
use Rattle.std.proofs.lemmas.List.Elements.{Contains-append_cases}
use Rattle.typing.specs.declared.typed.Arithmetic.{Arithmetic}
use Rattle.typing.specs.declared.typed.Condition as typed_condition
use Rattle.typing.specs.declared.typed.Expression as typed_expression
use Rattle.typing.specs.declared.typed.Query as typed_query
use Rattle.typing.specs.declared.typed.SetFunction as typed_function
use Rattle.typing.specs.declared.typed.Source as typed_source
use Rattle.typing.specs.declared.typed.Grouping as typed_grouping
use Rattle.typing.specs.declared.typed.Item as typed_item
use Rattle.typing.specs.declared.typed.Select as typed_select
use Rattle.algebra.specs.declared.tree.StoredTable.{StoredTable}
use Rattle.algebra.specs.declared.tree.Expression.{Expression}
use Rattle.algebra.specs.declared.tree.Condition.{Condition}
use Rattle.algebra.specs.declared.tree.Tree.{Tree-F}
use Rattle.algebra.specs.Meaning.{Layer, TreeMeaning, value_by, truth_by, tree_by}
use Rattle.algebra.specs.TreeOutcome.{outcome_step, tree_truth, tree_value}
use Rattle.algebra.specs.Translated.{TreeLayer, expression_tree, condition_tree, function_tree, source_tree, grouping_tree, item_tree, select_tree, query_tree, tree_of_query, tree_of_condition, tree_of_expression, tree_of_function, tree_of_source, tree_of_grouping, tree_of_item, tree_of_select}
use Rattle.algebra.proofs.Nodes.{value_constant, value_column, value_calculation, value_concatenation, value_negation, value_scalar, truth_or, truth_and, truth_negation, truth_test, truth_compare, truth_between, truth_in_list, truth_in_query, truth_like, truth_null, truth_exists}
use Rattle.denote.specs.Evaluation.{Env}
use Rattle.denote.specs.Expression.{ExpressionMeaning}
use Rattle.denote.specs.Condition.{ConditionMeaning}
use Rattle.denote.specs.Meaning.{Tables, condition_step, expression_step, query_outcome, truth_at, value_of}
use Rattle.operator_laws.proofs.Rolled.{Node, condition_meant, condition_rolled, expression_meant, expression_rolled}
use Rattle.operator_laws.specs.Same.{Agree}
use Rattle.rules.specs.Same.{Fits, HasAll, HasTable, KeepsCondition, KeepsExpression}
use Rattle.rules.specs.Stored.{StoredTables, all_stored, stored_in_condition, stored_in_expression}
use Rattle.rules.proofs.StoredNodes.{condition_and, condition_between, condition_compare, condition_exists, condition_in_list, condition_in_query, condition_like, condition_not, condition_null, condition_or, condition_test, expression_calculation, expression_column, expression_concatenation, expression_constant, expression_negation, expression_scalar}

same_at : {A B : Type 0} (f g : A → B) → ((x : A) → f x ≡ g x) → f ≡ g
same_at f g h = λ i x. h x i

same_map : {X A B C : Type 0} (k : X → A) (f : A → B) (g : B → C) (h : A → C) (xs : List X)
    → ((x : X) → g (f (k x)) ≡ h (k x)) → map g (map f (map k xs)) ≡ map h (map k xs)
same_map k f g h [] e = refl
same_map k f g h (x ∷ xs) e = rw (e x, same_map k f g h xs e) refl

-- ---- what tables have

has-none : (tables : Tables) → HasAll tables []
has-none tables table there = absurd (let below = there.1 in omega (arith, below))

has-both : (tables : Tables) (xs ys : StoredTables) → HasAll tables xs → HasAll tables ys → HasAll tables (xs ++ ys)
has-both tables xs ys h k table there = at (Contains-append_cases xs ys table there)
  where
    at : Contains xs table ⊎ Contains ys table → HasTable tables table
    at (inl z) = h table z
    at (inr z) = k table z

-- what a tree means, and that tables fit it
record Both (A B : Type 0) : Type 0 where
  pub same : A
  pub fits : B

module _ (described : List ℕ → StoredTable) (tables : Tables) (queries-same : (x : typed_query.Query) → tree_by (outcome_step tables) (tree_of_query described x) ≡ query_outcome tables x) (queries-fit : (x : typed_query.Query) → Fits tables (tree_of_query described x)) where
  abbrev step : Layer Tree-F → TreeMeaning
  step = outcome_step tables

  abbrev IsCondition : typed_condition.Condition → Type 0
  IsCondition x = Both (truth_by step (tree_of_condition described x) ≡ truth_at tables x) (HasAll tables (stored_in_condition (tree_of_condition described x)))

  abbrev IsExpression : typed_expression.Expression → Type 0
  IsExpression x = Both (value_by step (tree_of_expression described x) ≡ value_of tables x) (HasAll tables (stored_in_expression (tree_of_expression described x)))

  -- of queries both are known, and of the other types nothing is asked
  abbrev Parts : ((A B C D E F G H : Type 0) → Type 0) → Type 0
  Parts T =
      T ((x : typed_condition.Condition) × IsCondition x) ((x : typed_expression.Expression) × IsExpression x)
      ((x : typed_query.Query) × Unit {0}) ((x : typed_function.SetFunction) × Unit {0}) ((x : typed_source.Source) × Unit {0})
      ((x : typed_grouping.Grouping) × Unit {0}) ((x : typed_item.Item) × Unit {0}) ((x : typed_select.Select) × Unit {0})

  abbrev condition_of : Parts typed_condition.Condition-F → Node typed_condition.Condition-F
  condition_of y = typed_condition.map-Condition _ _ _ _ _ _ _ _ _ _ _ _ _ _ _ _ (λ p. p.0) (λ p. p.0) (λ p. p.0) (λ p. p.0) (λ p. p.0) (λ p. p.0) (λ p. p.0) (λ p. p.0) y

  abbrev expression_of : Parts typed_expression.Expression-F → Node typed_expression.Expression-F
  expression_of y = typed_expression.map-Expression _ _ _ _ _ _ _ _ _ _ _ _ _ _ _ _ (λ p. p.0) (λ p. p.0) (λ p. p.0) (λ p. p.0) (λ p. p.0) (λ p. p.0) (λ p. p.0) (λ p. p.0) y

  abbrev condition_made : Node typed_condition.Condition-F → TreeLayer typed_condition.Condition-F
  condition_made d = typed_condition.map-Condition _ _ _ _ _ _ _ _ _ _ _ _ _ _ _ _ (tree_of_condition described) (tree_of_expression described) (tree_of_query described) (tree_of_function described) (tree_of_source described) (tree_of_grouping described) (tree_of_item described) (tree_of_select described) d

  condition_is : (d : Node typed_condition.Condition-F) → tree_of_condition described (typed_condition.roll-Condition d) ≡ condition_tree (condition_made d)
  unfolding tree_of_condition tree_of_expression tree_of_query tree_of_function tree_of_source tree_of_grouping tree_of_item tree_of_select
  condition_is d = typed_condition.fold-roll-Condition _ _ _ _ _ _ _ _ condition_tree expression_tree query_tree function_tree (source_tree described) grouping_tree item_tree select_tree d

  abbrev expression_made : Node typed_expression.Expression-F → TreeLayer typed_expression.Expression-F
  expression_made d = typed_expression.map-Expression _ _ _ _ _ _ _ _ _ _ _ _ _ _ _ _ (tree_of_condition described) (tree_of_expression described) (tree_of_query described) (tree_of_function described) (tree_of_source described) (tree_of_grouping described) (tree_of_item described) (tree_of_select described) d

  expression_is : (d : Node typed_expression.Expression-F) → tree_of_expression described (typed_expression.roll-Expression d) ≡ expression_tree (expression_made d)
  unfolding tree_of_condition tree_of_expression tree_of_query tree_of_function tree_of_source tree_of_grouping tree_of_item tree_of_select
  expression_is d = typed_expression.fold-roll-Expression _ _ _ _ _ _ _ _ condition_tree expression_tree query_tree function_tree (source_tree described) grouping_tree item_tree select_tree d

  condition_kept : (y : Parts typed_condition.Condition-F) (env : Env)
      → truth_by step (condition_tree (condition_made (condition_of y))) env ≡ condition_step (condition_meant tables (condition_of y)) env
  condition_kept (typed_condition.Condition-F.Or operands) env = rw (truth_or, same_map (λ o. o.0) (tree_of_condition described) (truth_by step) (truth_at tables) operands (λ o. o.1.same)) refl
  condition_kept (typed_condition.Condition-F.And operands) env = rw (truth_and, same_map (λ o. o.0) (tree_of_condition described) (truth_by step) (truth_at tables) operands (λ o. o.1.same)) refl
  condition_kept (typed_condition.Condition-F.Not operand) env = rw (truth_negation, operand.1.same) refl
  condition_kept (typed_condition.Condition-F.IsTruth operand truth) env = rw (truth_test, operand.1.same) refl
  condition_kept (typed_condition.Condition-F.Compare op a b) env = rw (truth_compare, a.1.same, b.1.same) refl
  condition_kept (typed_condition.Condition-F.Between operand low high) env = rw (truth_between, operand.1.same, low.1.same, high.1.same) refl
  condition_kept (typed_condition.Condition-F.InList operand values) env = rw (truth_in_list, operand.1.same) refl
  condition_kept (typed_condition.Condition-F.InQuery operand query) env = rw (truth_in_query, operand.1.same, queries-same query.0) refl
  condition_kept (typed_condition.Condition-F.Like operand pattern) env = rw (truth_like, operand.1.same, pattern.1.same) refl
  condition_kept (typed_condition.Condition-F.IsNull operand) env = rw (truth_null, operand.1.same) refl
  condition_kept (typed_condition.Condition-F.Exists query) env = rw (truth_exists, queries-same query.0) refl

  expression_kept : (y : Parts typed_expression.Expression-F) (env : Env)
      → value_by step (expression_tree (expression_made (expression_of y))) env ≡ expression_step (expression_meant tables (expression_of y)) env
  expression_kept (typed_expression.Expression-F.Constant x) env = value_constant step x env
  expression_kept (typed_expression.Expression-F.Column depth place) env = value_column step depth place env
  expression_kept (typed_expression.Expression-F.Calculation first others) env =
      rw (value_calculation, first.1.same, same_map {C = Arithmetic × ExpressionMeaning} (λ (o : Arithmetic × ((x : typed_expression.Expression) × IsExpression x)). (o.0, o.1.0)) (λ (o : Arithmetic × typed_expression.Expression). (o.0, tree_of_expression described o.1)) (λ (o : Arithmetic × Expression). (o.0, value_by step o.1)) (λ (o : Arithmetic × typed_expression.Expression). (o.0, value_of tables o.1)) others (λ o. ap (λ (v : ExpressionMeaning). (o.0, v)) o.1.1.same)) refl
  expression_kept (typed_expression.Expression-F.Concatenation first others) env = rw (value_concatenation, first.1.same, same_map (λ o. o.0) (tree_of_expression described) (value_by step) (value_of tables) others (λ o. o.1.same)) refl
  expression_kept (typed_expression.Expression-F.Negation operand) env = rw (value_negation, operand.1.same) refl
  expression_kept (typed_expression.Expression-F.Scalar query) env = rw (value_scalar, queries-same query.0) refl

  -- ---- what is known of tables

  all-conditions : (parts : List ((x : typed_condition.Condition) × IsCondition x))
      → HasAll tables (all_stored (map stored_in_condition (map (tree_of_condition described) (map (λ (p : (x : typed_condition.Condition) × IsCondition x). p.0) parts))))
  all-conditions [] = has-none tables
  all-conditions (part ∷ parts) = has-both tables _ _ part.1.fits (all-conditions parts)

  all-expressions : (parts : List ((x : typed_expression.Expression) × IsExpression x))
      → HasAll tables (all_stored (map stored_in_expression (map (tree_of_expression described) (map (λ (p : (x : typed_expression.Expression) × IsExpression x). p.0) parts))))
  all-expressions [] = has-none tables
  all-expressions (part ∷ parts) = has-both tables _ _ part.1.fits (all-expressions parts)

  all-operands : (parts : List (Arithmetic × ((x : typed_expression.Expression) × IsExpression x)))
      → HasAll tables (flat_map (λ (other : Arithmetic × Expression). stored_in_expression other.1)
      (map (λ (o : Arithmetic × typed_expression.Expression). (o.0, tree_of_expression described o.1))
      (map (λ (o : Arithmetic × ((x : typed_expression.Expression) × IsExpression x)). (o.0, o.1.0)) parts)))
  all-operands [] = has-none tables
  all-operands (part ∷ parts) = has-both tables _ _ part.1.1.fits (all-operands parts)

  condition_fits : (y : Parts typed_condition.Condition-F)
      → HasAll tables (stored_in_condition (condition_tree (condition_made (condition_of y))))
  condition_fits (typed_condition.Condition-F.Or parts) = subst (HasAll tables) (sym (condition_or _)) (all-conditions parts)
  condition_fits (typed_condition.Condition-F.And parts) = subst (HasAll tables) (sym (condition_and _)) (all-conditions parts)
  condition_fits (typed_condition.Condition-F.Not operand) = subst (HasAll tables) (sym (condition_not _)) operand.1.fits
  condition_fits (typed_condition.Condition-F.IsTruth operand truth) = subst (HasAll tables) (sym (condition_test _ truth)) operand.1.fits
  condition_fits (typed_condition.Condition-F.Compare op a b) =
      subst (HasAll tables) (sym (condition_compare op _ _)) (has-both tables _ _ a.1.fits b.1.fits)
  condition_fits (typed_condition.Condition-F.Between operand low high) =
      subst (HasAll tables) (sym (condition_between _ _ _)) (has-both tables _ _ operand.1.fits (has-both tables _ _ low.1.fits high.1.fits))
  condition_fits (typed_condition.Condition-F.InList operand values) = subst (HasAll tables) (sym (condition_in_list _ values)) operand.1.fits
  condition_fits (typed_condition.Condition-F.InQuery operand query) =
      subst (HasAll tables) (sym (condition_in_query _ _)) (has-both tables _ _ operand.1.fits (queries-fit query.0))
  condition_fits (typed_condition.Condition-F.Like operand pattern) =
      subst (HasAll tables) (sym (condition_like _ _)) (has-both tables _ _ operand.1.fits pattern.1.fits)
  condition_fits (typed_condition.Condition-F.IsNull operand) = subst (HasAll tables) (sym (condition_null _)) operand.1.fits
  condition_fits (typed_condition.Condition-F.Exists query) = subst (HasAll tables) (sym (condition_exists _)) (queries-fit query.0)

  expression_fits : (y : Parts typed_expression.Expression-F)
      → HasAll tables (stored_in_expression (expression_tree (expression_made (expression_of y))))
  expression_fits (typed_expression.Expression-F.Constant x) = subst (HasAll tables) (sym (expression_constant x)) (has-none tables)
  expression_fits (typed_expression.Expression-F.Column depth place) = subst (HasAll tables) (sym (expression_column depth place)) (has-none tables)
  expression_fits (typed_expression.Expression-F.Calculation first others) =
      subst (HasAll tables) (sym (expression_calculation _ _)) (has-both tables _ _ first.1.fits (all-operands others))
  expression_fits (typed_expression.Expression-F.Concatenation first others) =
      subst (HasAll tables) (sym (expression_concatenation _ _)) (has-both tables _ _ first.1.fits (all-expressions others))
  expression_fits (typed_expression.Expression-F.Negation operand) = subst (HasAll tables) (sym (expression_negation _)) operand.1.fits
  expression_fits (typed_expression.Expression-F.Scalar query) = subst (HasAll tables) (sym (expression_scalar _)) (queries-fit query.0)

  -- ---- each node, and the induction

  condition_node : (x : Node typed_condition.Condition-F) (y : Parts typed_condition.Condition-F) → condition_of y ≡ x
      → IsCondition (typed_condition.roll-Condition x)
  condition_node x y is = subst (λ (z : Node typed_condition.Condition-F). IsCondition (typed_condition.roll-Condition z)) is (record {
    same = ap (truth_by step) (condition_is (condition_of y)) ∙ same_at _ _ (condition_kept y) ∙ sym (condition_rolled tables (condition_of y));
    fits = subst (λ (c : Condition). HasAll tables (stored_in_condition c)) (sym (condition_is (condition_of y))) (condition_fits y);
  })

  expression_node : (x : Node typed_expression.Expression-F) (y : Parts typed_expression.Expression-F) → expression_of y ≡ x
      → IsExpression (typed_expression.roll-Expression x)
  expression_node x y is = subst (λ (z : Node typed_expression.Expression-F). IsExpression (typed_expression.roll-Expression z)) is (record {
    same = ap (value_by step) (expression_is (expression_of y)) ∙ same_at _ _ (expression_kept y) ∙ sym (expression_rolled tables (expression_of y));
    fits = subst (λ (e : Expression). HasAll tables (stored_in_expression e)) (sym (expression_is (expression_of y))) (expression_fits y);
  })

  conditions-are : (x : typed_condition.Condition) → IsCondition x
  conditions-are = typed_condition.ind-Condition IsCondition IsExpression (λ _. Unit {0}) (λ _. Unit {0}) (λ _. Unit {0}) (λ _. Unit {0}) (λ _. Unit {0}) (λ _. Unit {0})
      condition_node expression_node (λ x y is. tt) (λ x y is. tt) (λ x y is. tt) (λ x y is. tt) (λ x y is. tt) (λ x y is. tt)

  expressions-are : (x : typed_expression.Expression) → IsExpression x
  expressions-are = typed_expression.ind-Expression IsCondition IsExpression (λ _. Unit {0}) (λ _. Unit {0}) (λ _. Unit {0}) (λ _. Unit {0}) (λ _. Unit {0}) (λ _. Unit {0})
      condition_node expression_node (λ x y is. tt) (λ x y is. tt) (λ x y is. tt) (λ x y is. tt) (λ x y is. tt) (λ x y is. tt)

  -- ---- what may stand for them

  pub condition-stands : (asked : typed_condition.Condition) (new : Condition) → KeepsCondition new (tree_of_condition described asked)
      → Agree (tree_truth tables new) (truth_at tables asked)
  condition-stands asked new keeps = subst (λ (m : ConditionMeaning). Agree (tree_truth tables new) m) (conditions-are asked).same
      (keeps.same tables (conditions-are asked).fits)

  pub expression-stands : (asked : typed_expression.Expression) (new : Expression) → KeepsExpression new (tree_of_expression described asked)
      → Agree (tree_value tables new) (value_of tables asked)
  expression-stands asked new keeps = subst (λ (m : ExpressionMeaning). Agree (tree_value tables new) m) (expressions-are asked).same
      (keeps.same tables (expressions-are asked).fits)
