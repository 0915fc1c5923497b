-- What a filter is at a row whose right side is padded with nulls: not true, where a conjunct looks
-- there.
use Rattle.algebra.specs.Meaning.{condition_step, expression_step}
use Rattle.algebra.specs.TreeOutcome.{outcome_step, tree_truth, tree_value}
use Rattle.algebra.specs.declared.tree.Condition.{Condition, Condition-F, out-Condition}
use Rattle.algebra.specs.declared.tree.Expression.{Expression, Expression-F, out-Expression}
use Rattle.algebra_laws.proofs.RolledTrees.{condition_meant, expression_meant}
use Rattle.denote.specs.Condition.{conjunction, among, compared}
use Rattle.denote.specs.Evaluation.{Env, Evaluation, ◌>>=◌}
use Rattle.denote.specs.Expression.{cell}
use Rattle.denote.specs.From.{nulls}
use Rattle.denote.specs.Meaning.{Tables}
use Rattle.operator_laws.specs.Law.{is_true}
use Rattle.rewrite_laws.proofs.Conditions.{off}
use Rattle.rewrite_laws.proofs.JoinTrees.{FailsOnNulls}
use Rattle.rewrite_laws.proofs.Truths.{same-ok, both-hold, truth-is, value-is, IsTrueAt, conjuncts-true}
use Rattle.rules.specs.Conjuncts.{conjuncts, others}
use Rattle.rules.specs.JoinRules.{is_right_column, is_constant, fails_on_nulls}
use Rattle.rules.specs.Nodes.{Node}
use Rattle.sqlval.specs.Comparison.{comparison}
use Rattle.sqlval.specs.Like.{like_of}
use Rattle.sqlval.specs.Truth.{truth_or}
use Rattle.sqlval.specs.Value.{Row}
use Rattle.sqlval.specs.declared.comparison.CompOp.{CompOp}
use Rattle.sqlval.specs.declared.comparison.CompOp.TheVariants.{GreaterOrEqual, LessOrEqual}
use Rattle.sqlval.specs.declared.truth.Truth.{Truth}
use Rattle.sqlval.specs.declared.truth.Truth.TheVariants.{False, Unknown, True}
use Rattle.sqlval.specs.declared.value.Value.{Value}
use Rattle.sqlval.specs.declared.value.Value.TheVariants.{Null, Int, Text}
use Rattle.std.proofs.Common.{◌≡◌, refl, sym, ap, ◌∙◌, ℕ, zero, suc, Bool, List, [], ◌∷◌, ◌++◌, map, Ok, true, false, not, ◌&&◌, ◌||◌, length, Err, arith}
use Rattle.std.proofs.lemmas.Bool.{ltb-true, ltb-false}
use Rattle.std.proofs.lemmas.List.{get_or-append-add, get_or-replicate, get_or_past, length-replicate}
use Rattle.std.specs.List.{list_any, AllByRecursion}
use Rattle.std.specs.Prelude.{◌+◌, ◌-◌, nat_lt, fold}
use Rattle.sqlval.specs.declared.comparison.CompOp.TheVariants as by

-- ---- a value that is null

null-compared : (op : CompOp) (y : Value) → comparison op Null y ≡ Unknown
null-compared op Null = refl
null-compared op (Int y) = refl
null-compared op (Text y) = refl

null-compared-right : (op : CompOp) (x : Value) → comparison op x Null ≡ Unknown
null-compared-right op Null = refl
null-compared-right op (Int x) = refl
null-compared-right op (Text x) = refl

null-like : (y : Value) → like_of Null y ≡ Unknown
null-like Null = refl
null-like (Int y) = refl
null-like (Text y) = refl

or-unknown : (t : Truth) → (t ≡ True → ⊥) → truth_or t Unknown ≡ True → ⊥
or-unknown True h e = h refl
or-unknown False h e = cc (e)
or-unknown Unknown h e = cc (e)

none-true : (t : Truth) (values : List Value) → (t ≡ True → ⊥) → fold truth_or t (map (comparison by.Equal Null) values)
    ≡ True → ⊥
none-true t [] h e = h e
none-true t (value ∷ values) h e = none-true (truth_or t (comparison by.Equal Null value)) values
    (λ k. or-unknown t h (ap (λ u. truth_or t u) (sym (null-compared by.Equal value)) ∙ k)) e

null-among : (values : List Value) → among Null values ≡ True → ⊥
null-among values e = none-true False values (λ k. cc (k)) e

unknown-true : {A : Type 0} (v : Evaluation A) (f : A → Truth) → ((x : A) → f x ≡ Unknown)
    → (v >>= (λ x. Ok (f x))) ≡ Ok True → ⊥
unknown-true (Ok x) f h e = let k = sym (h x) ∙ same-ok e in absurd (cc (k))
unknown-true (Err faults) f h e = absurd (cc (e))

-- ---- past the left row

null-at : (width place : ℕ) → cell (nulls width) place ≡ Null
null-at width place = at (nat_lt place width) refl
  where
    at : (b : Bool) → nat_lt place width ≡ b → cell (nulls width) place ≡ Null
    at true e = get_or-replicate width place Null Null (ltb-true place width e)
    at false e = let beyond = ltb-false place width e in
        let long = length-replicate width Null in
        get_or_past (nulls width) place Null (omega (arith, beyond, long))

module _ (tables : Tables) (w width : ℕ) (x : Row) (outer : Env) (wide : length x ≡ w) where
  abbrev env : Env
  env = (x ++ nulls width) ∷ outer

  -- a column of the right side is null in a padded row
  padded-null : (place : ℕ) → not (nat_lt place w) ≡ true → cell (x ++ nulls width) place ≡ Null
  padded-null place e =
      let beyond = ltb-false place w (off (nat_lt place w) e) in
      let there : length x + (place - w) ≡ place = omega (arith, beyond, wide) in
      ap (λ n. cell (x ++ nulls width) n) (sym there) ∙ get_or-append-add x (nulls width) (place - w) Null
      ∙ null-at width (place - w)

  right-null : (expression : Expression) → is_right_column w (out-Expression expression) ≡ true
      → tree_value tables expression env ≡ Ok Null
  right-null expression e = ap (λ f. f env) (value-is tables expression) ∙ at (out-Expression expression) e
    where
      at : (d : Node Expression-F) → is_right_column w d ≡ true
          → expression_step (expression_meant (outcome_step tables) d) env ≡ Ok Null
      at (Expression-F.Column zero place) f = ap (λ v. Ok v) (padded-null place f)
      at (Expression-F.Column (suc depth) place) f = absurd (cc (f))
      at (Expression-F.Constant z) f = absurd (cc (f))
      at (Expression-F.Calculation first others) f = absurd (cc (f))
      at (Expression-F.Concatenation first others) f = absurd (cc (f))
      at (Expression-F.Negation operand) f = absurd (cc (f))
      at (Expression-F.Scalar tree) f = absurd (cc (f))

  -- ---- so none of these is true there

  compared-left : (op : CompOp) (one other : Expression) → is_right_column w (out-Expression one) ≡ true
      → compared op (tree_value tables one) (tree_value tables other) env ≡ Ok True → ⊥
  compared-left op one other e h = unknown-true (tree_value tables other env) (λ y. comparison op Null y)
      (null-compared op)
      (ap (λ (v : Evaluation Value). v >>= (λ z. tree_value tables other env >>= (λ y. Ok (comparison op z y))))
      (sym (right-null one e)) ∙ h)

  compared-right : (op : CompOp) (one other : Expression) → is_right_column w (out-Expression other) ≡ true
      → compared op (tree_value tables one) (tree_value tables other) env ≡ Ok True → ⊥
  compared-right op one other e h = unknown-true (tree_value tables one env) (λ z. comparison op z Null)
      (null-compared-right op)
      (ap (λ (v : Evaluation Value). tree_value tables one env >>= (λ z. v >>= (λ y. Ok (comparison op z y))))
      (sym (right-null other e)) ∙ h)

  conjunct-fails : (d : Node Condition-F) → fails_on_nulls w d ≡ true
      → condition_step (condition_meant (outcome_step tables) d) env ≡ Ok True → ⊥
  conjunct-fails (Condition-F.Compare op left right) e h =
      at (is_right_column w (out-Expression left)) (is_right_column w (out-Expression right)) refl refl e
    where
      at : (a b : Bool) → is_right_column w (out-Expression left) ≡ a → is_right_column w (out-Expression right) ≡ b
          → ((a && is_constant (out-Expression right)) || (is_constant (out-Expression left) && b)) ≡ true → ⊥
      at true b p q f = compared-left op left right p h
      at false true p q f = compared-right op left right q h
      at false false p q f = neither (is_constant (out-Expression left)) f
        where
          neither : (z : Bool) → (z && false) ≡ true → ⊥
          neither true g = cc (g)
          neither false g = cc (g)
  conjunct-fails (Condition-F.Between operand low high) e h = compared-left by.GreaterOrEqual operand low e
      (both-hold (compared by.GreaterOrEqual (tree_value tables operand) (tree_value tables low) env)
      (conjunction (compared by.LessOrEqual (tree_value tables operand) (tree_value tables high) ∷ []) env) h).0
  conjunct-fails (Condition-F.InList operand values) e h =
      null-among values (same-ok
      (ap (λ (v : Evaluation Value). v >>= (λ z. Ok (among z values))) (sym (right-null operand e)) ∙ h))
  conjunct-fails (Condition-F.Like operand pattern) e h = unknown-true (tree_value tables pattern env)
      (λ y. like_of Null y) null-like
      (ap (λ (v : Evaluation Value). v >>= (λ z. tree_value tables pattern env >>= (λ y. Ok (like_of z y))))
      (sym (right-null operand e)) ∙ h)
  conjunct-fails (Condition-F.Or operands) e h = cc (e)
  conjunct-fails (Condition-F.And operands) e h = cc (e)
  conjunct-fails (Condition-F.Not operand) e h = cc (e)
  conjunct-fails (Condition-F.IsTruth operand truth) e h = cc (e)
  conjunct-fails (Condition-F.InQuery operand tree) e h = cc (e)
  conjunct-fails (Condition-F.IsNull operand) e h = cc (e)
  conjunct-fails (Condition-F.Exists tree) e h = cc (e)

  some-fails : (conditions : List Condition)
      → list_any (λ conjunct. fails_on_nulls w (out-Condition conjunct)) conditions ≡ true
      → AllByRecursion (IsTrueAt tables env) conditions → ⊥
  some-fails [] e h = cc (e)
  some-fails (condition ∷ conditions) e h = at (fails_on_nulls w (out-Condition condition)) refl e
      (λ f. some-fails conditions f h.1)
    where
      at : (b : Bool) → fails_on_nulls w (out-Condition condition) ≡ b
          → (b || list_any (λ conjunct. fails_on_nulls w (out-Condition conjunct)) conditions) ≡ true
          → (list_any (λ conjunct. fails_on_nulls w (out-Condition conjunct)) conditions ≡ true → ⊥) → ⊥
      at true is f rest = conjunct-fails (out-Condition condition) is (ap (λ m. m env) (sym (truth-is tables condition))
          ∙ h.0)
      at false is f rest = rest f

-- a condition with such a conjunct is true at no padded row
pub fails-on-nulls : (condition : Condition) (w width : ℕ)
    → list_any (λ conjunct. fails_on_nulls w (out-Condition conjunct)) (conjuncts condition) ≡ true
    → FailsOnNulls condition w width
fails-on-nulls condition w width e tables x outer wide =
    at (tree_truth tables condition ((x ++ nulls width) ∷ outer)) refl
  where
    at : (t : Evaluation Truth) → tree_truth tables condition ((x ++ nulls width) ∷ outer) ≡ t → is_true t ≡ false
    at (Ok True) is = absurd (some-fails tables w width x outer wide (conjuncts condition) e
        (conjuncts-true tables condition ((x ++ nulls width) ∷ outer) is))
    at (Ok False) is = refl
    at (Ok Unknown) is = refl
    at (Err faults) is = refl
