-- What conditions and their operands mean at a row, by the node that each is.
use Rattle.std.proofs.Common.{◌≡◌, refl, ap, sym, ◌∙◌, ℕ, Bool, true, false, ◌&&◌, if◌then◌else◌, List, [], ◌∷◌, map, Some, None, Ok, Err}
use Rattle.std.proofs.lemmas.Bool.{eqb-true}
use Rattle.std.specs.Prelude.{◌==◌}
use Rattle.std.specs.List.{AllByRecursion}
use Rattle.sqlval.specs.declared.truth.Truth.{Truth}
use Rattle.sqlval.specs.declared.truth.Truth.TheVariants.{True, False, Unknown}
use Rattle.sqlval.specs.declared.comparison.CompOp.TheVariants as by
use Rattle.sqlval.specs.declared.value.Value.{Value}
use Rattle.sqlval.specs.Comparison.{comparison}
use Rattle.sqlval.specs.Matching.{is_equal}
use Rattle.sqlval.specs.Truth.{same_truth}
use Rattle.sqlval.specs.Value.{Row}
use Rattle.denote.specs.Evaluation.{Env, Evaluation, ◌>>=◌}
use Rattle.denote.specs.Expression.{ExpressionMeaning, cell, column}
use Rattle.denote.specs.Condition.{ConditionMeaning, both, compared, conjunction}
use Rattle.denote.specs.Meaning.{Tables}
use Rattle.algebra.specs.declared.tree.Condition.{Condition, Condition-F, map-Condition, out-Condition, fold_out-Condition}
use Rattle.algebra.specs.declared.tree.Expression.{Expression, Expression-F, map-Expression, out-Expression, fold_out-Expression}
use Rattle.algebra.specs.Meaning.{Layer as Meant, condition_step, expression_step, function_step, value_by, truth_by, function_by, tree_by}
use Rattle.algebra.specs.TreeOutcome.{outcome_step, tree_outcome, tree_truth, tree_value}
use Rattle.key_lookups.specs.Sought.{Layer, conjuncts_at, is_column, literal_beside, literal_of}

pub same_ok : {A : Type 0} {x y : A} → ◌≡◌ {A = Evaluation A} (Ok x) (Ok y) → x ≡ y
same_ok e = cc

-- ---- values and truth values, whatever gives them

-- an AND is true where both parts are
both_true : (x others : Evaluation Truth) → (x >>= (λ t. both t others)) ≡ Ok True → (x ≡ Ok True) × (others ≡ Ok True)
both_true (Ok True) others e = (refl, e)
both_true (Ok False) others e = absurd (cc)
both_true (Ok Unknown) (Ok True) e = absurd (cc)
both_true (Ok Unknown) (Ok False) e = absurd (cc)
both_true (Ok Unknown) (Ok Unknown) e = absurd (cc)
both_true (Ok Unknown) (Err faults) e = absurd (cc)
both_true (Err faults) others e = absurd (cc)

-- an equality is true where the values are equal
compared_true : (one other : ExpressionMeaning) (env : Env) (x y : Value) → one env ≡ Ok x → other env ≡ Ok y → compared by.Equal one other env ≡ Ok True → is_equal x y ≡ true
compared_true one other env x y p q e =
    let known : compared by.Equal one other env ≡ Ok (comparison by.Equal x y) = rw (p, q) refl in
    ap (λ t. same_truth t True) (same_ok (sym known ∙ e))

both_hold : (a b : Bool) → (a && b) ≡ true → (a ≡ true) × (b ≡ true)
both_hold true true e = (refl, refl)
both_hold true false e = absurd (cc)
both_hold false b e = absurd (cc)

module _ (tables : Tables) where
  -- ---- nodes

  abbrev pub condition_meant : Layer Condition-F → Meant Condition-F
  condition_meant d = map-Condition _ _ _ _ _ _ _ _ (tree_truth tables) (tree_value tables) (function_by (outcome_step tables)) (tree_outcome tables) d

  pub truth_is : (c : Condition) → tree_truth tables c ≡ condition_step (condition_meant (out-Condition c))
  unfolding truth_by value_by function_by tree_by
  truth_is c = fold_out-Condition _ _ _ _ condition_step expression_step function_step (outcome_step tables) c

  abbrev expression_meant : Layer Expression-F → Meant Expression-F
  expression_meant d = map-Expression _ _ _ _ _ _ _ _ (tree_truth tables) (tree_value tables) (function_by (outcome_step tables)) (tree_outcome tables) d

  value_is : (x : Expression) → tree_value tables x ≡ expression_step (expression_meant (out-Expression x))
  unfolding truth_by value_by function_by tree_by
  value_is x = fold_out-Expression _ _ _ _ condition_step expression_step function_step (outcome_step tables) x

  -- ---- a column and a literal

  column_here : (place : ℕ) (d : Layer Expression-F) (row : Row) (outer : Env) → is_column place d ≡ true → expression_step (expression_meant d) (row ∷ outer) ≡ Ok (cell row place)
  column_here place (Expression-F.Column depth at) row outer e =
      let both = both_hold (depth == 0) (at == place) e in
      let here : depth ≡ 0 = eqb-true depth 0 both.0 in
      let same : at ≡ place = eqb-true at place both.1 in
      rw (here, same) refl
  column_here place (Expression-F.Constant x) row outer e = absurd (cc)
  column_here place (Expression-F.Calculation first others) row outer e = absurd (cc)
  column_here place (Expression-F.Concatenation first others) row outer e = absurd (cc)
  column_here place (Expression-F.Negation operand) row outer e = absurd (cc)
  column_here place (Expression-F.Scalar tree) row outer e = absurd (cc)

  same_some : {A : Type 0} {x y : A} → Some x ≡ Some y → x ≡ y
  same_some e = cc

  literal_there : (d : Layer Expression-F) (x : Value) (env : Env) → literal_of d ≡ Some x → expression_step (expression_meant d) env ≡ Ok x
  literal_there (Expression-F.Constant y) x env e = ap (λ v. Ok v) (same_some e)
  literal_there (Expression-F.Column depth at) x env e = absurd (cc)
  literal_there (Expression-F.Calculation first others) x env e = absurd (cc)
  literal_there (Expression-F.Concatenation first others) x env e = absurd (cc)
  literal_there (Expression-F.Negation operand) x env e = absurd (cc)
  literal_there (Expression-F.Scalar tree) x env e = absurd (cc)

  -- the one side is the column and the other the literal
  pub sides : (place : ℕ) (one other : Expression) (x : Value) (row : Row) (outer : Env) → literal_beside place (out-Expression one) (out-Expression other) ≡ Some x
      → (tree_value tables one (row ∷ outer) ≡ Ok (cell row place)) × (tree_value tables other (row ∷ outer) ≡ Ok x)
  sides place one other x row outer e = at (is_column place (out-Expression one)) refl e
    where
      at : (b : Bool) → is_column place (out-Expression one) ≡ b → (if b then literal_of (out-Expression other) else None) ≡ Some x
          → (tree_value tables one (row ∷ outer) ≡ Ok (cell row place)) × (tree_value tables other (row ∷ outer) ≡ Ok x)
      at true is e = (
        ap (λ f. f (row ∷ outer)) (value_is one) ∙ column_here place (out-Expression one) row outer is,
        ap (λ f. f (row ∷ outer)) (value_is other) ∙ literal_there (out-Expression other) x (row ∷ outer) e,
      )
      at false is e = absurd (cc)

  -- ---- conjuncts

  abbrev pub IsTrueAt : Env → Condition → Type 0
  IsTrueAt env c = tree_truth tables c env ≡ Ok True

  operands_true : (operands : List Condition) (env : Env) → conjunction (map (tree_truth tables) operands) env ≡ Ok True → AllByRecursion (IsTrueAt env) operands
  operands_true [] env e = tt
  operands_true (c ∷ operands) env e =
      let two = both_true (tree_truth tables c env) (conjunction (map (tree_truth tables) operands) env) e in
      (two.0, operands_true operands env two.1)

  -- where a condition is true all its conjuncts are
  pub conjuncts_true : (c : Condition) (env : Env) → IsTrueAt env c → AllByRecursion (IsTrueAt env) (conjuncts_at (out-Condition c) c)
  conjuncts_true c env h = at (out-Condition c) (sym (ap (λ f. f env) (truth_is c)) ∙ h)
    where
      at : (d : Layer Condition-F) → condition_step (condition_meant d) env ≡ Ok True → AllByRecursion (IsTrueAt env) (conjuncts_at d c)
      at (Condition-F.And operands) e = operands_true operands env e
      at (Condition-F.Or operands) e = (h, tt)
      at (Condition-F.Not operand) e = (h, tt)
      at (Condition-F.IsTruth operand truth) e = (h, tt)
      at (Condition-F.Compare operator left right) e = (h, tt)
      at (Condition-F.Between operand low high) e = (h, tt)
      at (Condition-F.InList operand values) e = (h, tt)
      at (Condition-F.InQuery operand tree) e = (h, tt)
      at (Condition-F.Like operand pattern) e = (h, tt)
      at (Condition-F.IsNull operand) e = (h, tt)
      at (Condition-F.Exists tree) e = (h, tt)

  pub equality_true : (left right : Expression) (env : Env) (x y : Value) → tree_value tables left env ≡ Ok x → tree_value tables right env ≡ Ok y
      → condition_step (condition_meant (Condition-F.Compare by.Equal left right)) env ≡ Ok True → is_equal x y ≡ true
  equality_true left right env x y p q e = compared_true (tree_value tables left) (tree_value tables right) env x y p q e
