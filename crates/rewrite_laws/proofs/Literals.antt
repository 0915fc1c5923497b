-- Comparisons of a column with a literal, and the bounds that they set.
use Rattle.algebra.specs.Meaning.{condition_step, expression_step}
use Rattle.algebra.specs.TreeOutcome.{outcome_step, tree_value}
use Rattle.algebra.specs.declared.tree.Bound.{Bound}
use Rattle.algebra.specs.declared.tree.Condition.{Condition, Condition-F, out-Condition}
use Rattle.algebra.specs.declared.tree.Expression.{Expression, Expression-F, out-Expression}
use Rattle.algebra_laws.proofs.RolledTrees.{condition_meant, expression_meant}
use Rattle.denote.specs.Condition.{conjunction, compared}
use Rattle.denote.specs.Evaluation.{Env}
use Rattle.denote.specs.Expression.{cell}
use Rattle.denote.specs.Meaning.{Tables}
use Rattle.key_lookups.specs.Sought.{is_column, literal_of}
use Rattle.rewrite_laws.proofs.Found.{some-is, then-found, map-found, or-found}
use Rattle.rewrite_laws.proofs.Truths.{same-ok, both-hold, compared-is, truth-is, value-is, IsTrueAt}
use Rattle.rules.specs.Bounds.{bound, low_by, high_by, literal_by, low_in, high_in, low_among, high_among}
use Rattle.rules.specs.Conjuncts.{others}
use Rattle.rules.specs.Nodes.{Node, first_found}
use Rattle.same_laws.proofs.Moved.{and_true}
use Rattle.sqlval.specs.Comparison.{comparison}
use Rattle.sqlval.specs.Truth.{truth_of}
use Rattle.sqlval.specs.Value.{Row}
use Rattle.sqlval.specs.declared.comparison.CompOp.{CompOp}
use Rattle.sqlval.specs.declared.comparison.CompOp.TheVariants.{GreaterOrEqual, LessOrEqual}
use Rattle.sqlval.specs.declared.truth.Truth.{Truth}
use Rattle.sqlval.specs.declared.truth.Truth.TheVariants.{True}
use Rattle.sqlval.specs.declared.value.Value.{Value}
use Rattle.sqlval.specs.declared.value.Value.TheVariants.{Null, Int, Text}
use Rattle.std.proofs.Common.{◌≡◌, refl, sym, subst, ap, ◌∙◌, ℕ, Bool, List, [], ◌∷◌, Option, Ok, true, false, Some, None, inl, inr, int_cmp}
use Rattle.std.proofs.lemmas.Cmp.{nat_list_cmp_total}
use Rattle.std.specs.List.{AllByRecursion}
use Rattle.std.specs.Prelude.{if◌then◌else◌, option_and_then, ◌==◌}
use Rattle.sqlval.specs.declared.comparison.CompOp.TheVariants as by
use Rattle.algebra.specs.Bounds as bounds
use Rattle.std.specs.declared.cmp.Ordering.TheVariants.{Less, Equal, Greater}
use Rattle.std.specs.declared.cmp.Ordering.{Ordering}
use Rattle.std.specs.Ordering.{ordering_reverse, is_lt, is_gt, is_le, is_ge}
use Rattle.sqlval.specs.Comparison.{holds_at, text_order}
use Rattle.std.proofs.lemmas.Cmp.{int_cmp_total}
use Rattle.algebra.specs.Bounds.{meets}
use Rattle.std.proofs.lemmas.Bool.{eqb-true}
use Rattle.sqlval.specs.Truth.{same_truth}

-- ---- the other way round

less-turned : (o : Ordering) → is_lt (ordering_reverse o) ≡ is_gt o
less-turned Less = refl
less-turned Equal = refl
less-turned Greater = refl

most-turned : (o : Ordering) → is_le (ordering_reverse o) ≡ is_ge o
most-turned Less = refl
most-turned Equal = refl
most-turned Greater = refl

more-turned : (o : Ordering) → is_gt (ordering_reverse o) ≡ is_lt o
more-turned Less = refl
more-turned Equal = refl
more-turned Greater = refl

least-turned : (o : Ordering) → is_ge (ordering_reverse o) ≡ is_le o
least-turned Less = refl
least-turned Equal = refl
least-turned Greater = refl

turned-by : (op other : CompOp) → ((o : Ordering) → holds_at op (ordering_reverse o) ≡ holds_at other o) → (x y : Value)
    → comparison op x y ≡ comparison other y x
turned-by op other h Null Null = refl
turned-by op other h Null (Int y) = refl
turned-by op other h Null (Text y) = refl
turned-by op other h (Int x) Null = refl
turned-by op other h (Int x) (Int y) = ap truth_of (ap (holds_at op) (int_cmp_total.antisymm x y) ∙ h (int_cmp y x))
turned-by op other h (Int x) (Text y) = refl
turned-by op other h (Text x) Null = refl
turned-by op other h (Text x) (Int y) = refl
turned-by op other h (Text x) (Text y) = ap truth_of (ap (holds_at op) (nat_list_cmp_total.antisymm x y)
    ∙ h (text_order y x))

pub less-than : (x y : Value) → comparison by.Less x y ≡ comparison by.Greater y x
less-than = turned-by by.Less by.Greater less-turned

pub at-most : (x y : Value) → comparison by.LessOrEqual x y ≡ comparison by.GreaterOrEqual y x
at-most = turned-by by.LessOrEqual by.GreaterOrEqual most-turned

pub more-than : (x y : Value) → comparison by.Greater x y ≡ comparison by.Less y x
more-than = turned-by by.Greater by.Less more-turned

pub at-least : (x y : Value) → comparison by.GreaterOrEqual x y ≡ comparison by.LessOrEqual y x
at-least = turned-by by.GreaterOrEqual by.LessOrEqual least-turned

-- ---- a column beside a literal

module _ (tables : Tables) (place : ℕ) (row : Row) (outer : Env) where
  column-here : (d : Node Expression-F) → is_column place d ≡ true
      → expression_step (expression_meant (outcome_step tables) d) (row ∷ outer) ≡ Ok (cell row place)
  column-here (Expression-F.Column depth at) e =
      let both = and_true (depth == 0) (at == place) e in
      let here : depth ≡ 0 = eqb-true depth 0 both.0 in
      let same : at ≡ place = eqb-true at place both.1 in
      rw (here, same) refl
  column-here (Expression-F.Constant x) e = absurd (cc (e))
  column-here (Expression-F.Calculation first others) e = absurd (cc (e))
  column-here (Expression-F.Concatenation first others) e = absurd (cc (e))
  column-here (Expression-F.Negation operand) e = absurd (cc (e))
  column-here (Expression-F.Scalar tree) e = absurd (cc (e))

  literal-there : (d : Node Expression-F) (x : Value) → literal_of d ≡ Some x
      → expression_step (expression_meant (outcome_step tables) d) (row ∷ outer) ≡ Ok x
  literal-there (Expression-F.Constant y) x e = ap (λ v. Ok v) (some-is e)
  literal-there (Expression-F.Column depth at) x e = absurd (cc (e))
  literal-there (Expression-F.Calculation first others) x e = absurd (cc (e))
  literal-there (Expression-F.Concatenation first others) x e = absurd (cc (e))
  literal-there (Expression-F.Negation operand) x e = absurd (cc (e))
  literal-there (Expression-F.Scalar tree) x e = absurd (cc (e))

  pub beside-literal : (one other : Expression) (x : Value) → literal_by place one other ≡ Some x
      → (tree_value tables one (row ∷ outer) ≡ Ok (cell row place)) × (tree_value tables other (row ∷ outer) ≡ Ok x)
  beside-literal one other x e = at (is_column place (out-Expression one)) refl e
    where
      at : (b : Bool) → is_column place (out-Expression one) ≡ b
          → (if b then literal_of (out-Expression other) else None) ≡ Some x
          → (tree_value tables one (row ∷ outer) ≡ Ok (cell row place)) × (tree_value tables other (row ∷ outer) ≡ Ok x)
      at true is f = (
        ap (λ m. m (row ∷ outer)) (value-is tables one) ∙ column-here (out-Expression one) is,
        ap (λ m. m (row ∷ outer)) (value-is tables other) ∙ literal-there (out-Expression other) x f,
      )
      at false is f = absurd (cc (f))

  -- ---- what a comparison with a literal that is true says

  pub compared-with : (op : CompOp) (left right : Expression) (x : Value) → literal_by place left right ≡ Some x
      → compared op (tree_value tables left) (tree_value tables right) (row ∷ outer) ≡ Ok True
      → comparison op (cell row place) x ≡ True
  compared-with op left right x e h =
      let p = beside-literal left right x e in
      same-ok (sym (compared-is op (tree_value tables left) (tree_value tables right) (row ∷ outer)
      (cell row place) x p.0 p.1) ∙ h)

  pub compared-from : (op : CompOp) (left right : Expression) (x : Value) → literal_by place right left ≡ Some x
      → compared op (tree_value tables left) (tree_value tables right) (row ∷ outer) ≡ Ok True
      → comparison op x (cell row place) ≡ True
  compared-from op left right x e h =
      let p = beside-literal right left x e in
      same-ok (sym (compared-is op (tree_value tables left) (tree_value tables right) (row ∷ outer) x
      (cell row place) p.1 p.0) ∙ h)

  abbrev pub MeetsLow : Bound → Type 0
  MeetsLow limit = meets bounds.above (cell row place) (Some limit) ≡ true

  abbrev pub MeetsHigh : Bound → Type 0
  MeetsHigh limit = meets bounds.below (cell row place) (Some limit) ≡ true

  is-met : (t : Truth) → t ≡ True → same_truth t True ≡ true
  is-met t e = ap (λ z. same_truth z True) e

  low-set : (op : CompOp) (x : Value) (limit : Bound) → low_by op x ≡ Some limit
      → comparison op (cell row place) x ≡ True → MeetsLow limit
  low-set by.Greater x limit e h = subst MeetsLow (some-is e) (is-met (comparison by.Greater (cell row place) x) h)
  low-set by.GreaterOrEqual x limit e h =
      subst MeetsLow (some-is e) (is-met (comparison by.GreaterOrEqual (cell row place) x) h)
  low-set by.Less x limit e h = absurd (cc (e))
  low-set by.LessOrEqual x limit e h = absurd (cc (e))
  low-set by.Equal x limit e h = absurd (cc (e))
  low-set by.NotEqual x limit e h = absurd (cc (e))

  low-turned : (op : CompOp) (x : Value) (limit : Bound) → high_by op x ≡ Some limit
      → comparison op x (cell row place) ≡ True → MeetsLow limit
  low-turned by.Less x limit e h =
      subst MeetsLow (some-is e)
      (is-met (comparison by.Greater (cell row place) x) (sym (less-than x (cell row place)) ∙ h))
  low-turned by.LessOrEqual x limit e h =
      subst MeetsLow (some-is e)
      (is-met (comparison by.GreaterOrEqual (cell row place) x) (sym (at-most x (cell row place)) ∙ h))
  low-turned by.Greater x limit e h = absurd (cc (e))
  low-turned by.GreaterOrEqual x limit e h = absurd (cc (e))
  low-turned by.Equal x limit e h = absurd (cc (e))
  low-turned by.NotEqual x limit e h = absurd (cc (e))

  high-set : (op : CompOp) (x : Value) (limit : Bound) → high_by op x ≡ Some limit
      → comparison op (cell row place) x ≡ True → MeetsHigh limit
  high-set by.Less x limit e h = subst MeetsHigh (some-is e) (is-met (comparison by.Less (cell row place) x) h)
  high-set by.LessOrEqual x limit e h =
      subst MeetsHigh (some-is e) (is-met (comparison by.LessOrEqual (cell row place) x) h)
  high-set by.Greater x limit e h = absurd (cc (e))
  high-set by.GreaterOrEqual x limit e h = absurd (cc (e))
  high-set by.Equal x limit e h = absurd (cc (e))
  high-set by.NotEqual x limit e h = absurd (cc (e))

  high-turned : (op : CompOp) (x : Value) (limit : Bound) → low_by op x ≡ Some limit
      → comparison op x (cell row place) ≡ True → MeetsHigh limit
  high-turned by.Greater x limit e h =
      subst MeetsHigh (some-is e)
      (is-met (comparison by.Less (cell row place) x) (sym (more-than x (cell row place)) ∙ h))
  high-turned by.GreaterOrEqual x limit e h =
      subst MeetsHigh (some-is e)
      (is-met (comparison by.LessOrEqual (cell row place) x) (sym (at-least x (cell row place)) ∙ h))
  high-turned by.Less x limit e h = absurd (cc (e))
  high-turned by.LessOrEqual x limit e h = absurd (cc (e))
  high-turned by.Equal x limit e h = absurd (cc (e))
  high-turned by.NotEqual x limit e h = absurd (cc (e))

  -- ---- the bounds of a conjunct that is true are met

  abbrev IsTrueNode : Node Condition-F → Type 0
  IsTrueNode d = condition_step (condition_meant (outcome_step tables) d) (row ∷ outer) ≡ Ok True

  low-met : (d : Node Condition-F) (limit : Bound) → low_in place d ≡ Some limit → IsTrueNode d → MeetsLow limit
  low-met (Condition-F.Compare op left right) limit e h =
      elim (or-found (option_and_then (low_by op) (literal_by place left right))
      (option_and_then (high_by op) (literal_by place right left)) limit e) [
        | inl f ↦ let p = then-found (low_by op) (literal_by place left right) limit f in low-set op p.0 limit p.2
            (compared-with op left right p.0 p.1 h)
        | inr f ↦ let p = then-found (high_by op) (literal_by place right left) limit f in low-turned op p.0 limit p.2
            (compared-from op left right p.0 p.1 h)
      ]
  low-met (Condition-F.Between operand low high) limit e h =
      let p = map-found (bound true) (literal_by place operand low) limit e in
      let first = both-hold (compared by.GreaterOrEqual (tree_value tables operand) (tree_value tables low)
      (row ∷ outer))
      (conjunction (compared by.LessOrEqual (tree_value tables operand) (tree_value tables high) ∷ [])
      (row ∷ outer)) h in
      subst MeetsLow p.2 (is-met (comparison by.GreaterOrEqual (cell row place) p.0)
      (compared-with by.GreaterOrEqual operand low p.0 p.1 first.0))
  low-met (Condition-F.Or operands) limit e h = absurd (cc (e))
  low-met (Condition-F.And operands) limit e h = absurd (cc (e))
  low-met (Condition-F.Not operand) limit e h = absurd (cc (e))
  low-met (Condition-F.IsTruth operand truth) limit e h = absurd (cc (e))
  low-met (Condition-F.InList operand values) limit e h = absurd (cc (e))
  low-met (Condition-F.InQuery operand tree) limit e h = absurd (cc (e))
  low-met (Condition-F.Like operand pattern) limit e h = absurd (cc (e))
  low-met (Condition-F.IsNull operand) limit e h = absurd (cc (e))
  low-met (Condition-F.Exists tree) limit e h = absurd (cc (e))

  high-met : (d : Node Condition-F) (limit : Bound) → high_in place d ≡ Some limit → IsTrueNode d → MeetsHigh limit
  high-met (Condition-F.Compare op left right) limit e h =
      elim (or-found (option_and_then (high_by op) (literal_by place left right))
      (option_and_then (low_by op) (literal_by place right left)) limit e) [
        | inl f ↦ let p = then-found (high_by op) (literal_by place left right) limit f in high-set op p.0 limit p.2
            (compared-with op left right p.0 p.1 h)
        | inr f ↦ let p = then-found (low_by op) (literal_by place right left) limit f in high-turned op p.0 limit p.2
            (compared-from op left right p.0 p.1 h)
      ]
  high-met (Condition-F.Between operand low high) limit e h =
      let p = map-found (bound true) (literal_by place operand high) limit e in
      let second = both-hold (compared by.GreaterOrEqual (tree_value tables operand) (tree_value tables low)
      (row ∷ outer))
      (conjunction (compared by.LessOrEqual (tree_value tables operand) (tree_value tables high) ∷ [])
      (row ∷ outer)) h in
      let alone = both-hold (compared by.LessOrEqual (tree_value tables operand) (tree_value tables high) (row ∷ outer))
      (Ok True) second.1 in
      subst MeetsHigh p.2 (is-met (comparison by.LessOrEqual (cell row place) p.0)
      (compared-with by.LessOrEqual operand high p.0 p.1 alone.0))
  high-met (Condition-F.Or operands) limit e h = absurd (cc (e))
  high-met (Condition-F.And operands) limit e h = absurd (cc (e))
  high-met (Condition-F.Not operand) limit e h = absurd (cc (e))
  high-met (Condition-F.IsTruth operand truth) limit e h = absurd (cc (e))
  high-met (Condition-F.InList operand values) limit e h = absurd (cc (e))
  high-met (Condition-F.InQuery operand tree) limit e h = absurd (cc (e))
  high-met (Condition-F.Like operand pattern) limit e h = absurd (cc (e))
  high-met (Condition-F.IsNull operand) limit e h = absurd (cc (e))
  high-met (Condition-F.Exists tree) limit e h = absurd (cc (e))

  module _ (conditions : List Condition) (hold : AllByRecursion (IsTrueAt tables (row ∷ outer)) conditions) where
    first-held : {X : Type 0} (find : Node Condition-F → Option X) (M : X → Type 0)
        → ((d : Node Condition-F) (x : X) → find d ≡ Some x → IsTrueNode d → M x)
        → (conditions : List Condition) → AllByRecursion (IsTrueAt tables (row ∷ outer)) conditions → (x : X)
        → first_found (λ condition. find (out-Condition condition)) conditions ≡ Some x → M x
    first-held find M met [] h x e = absurd (cc (e))
    first-held find M met (condition ∷ conditions) h x e =
        elim (or-found (find (out-Condition condition))
        (first_found (λ condition. find (out-Condition condition)) conditions) x e) [
          | inl f ↦ met (out-Condition condition) x f (ap (λ m. m (row ∷ outer)) (sym (truth-is tables condition)) ∙ h.0)
          | inr f ↦ first-held find M met conditions h.1 x f
        ]

    pub low-holds : (limit : Option Bound) → low_among place conditions ≡ limit
        → meets bounds.above (cell row place) limit ≡ true
    low-holds None e = refl
    low-holds (Some limit) e = first-held (low_in place) MeetsLow low-met conditions hold limit e

    pub high-holds : (limit : Option Bound) → high_among place conditions ≡ limit
        → meets bounds.below (cell row place) limit ≡ true
    high-holds None e = refl
    high-holds (Some limit) e = first-held (high_in place) MeetsHigh high-met conditions hold limit e
