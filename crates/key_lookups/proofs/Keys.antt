-- Where a condition is true the row has the key that the condition asks for.
use Rattle.std.proofs.Common.{◌≡◌, refl, ap, sym, ◌∙◌, ℕ, Bool, true, false, if◌then◌else◌, List, [], ◌∷◌, Option, Some, None, Ok}
use Rattle.std.specs.List.{AllByRecursion}
use Rattle.std.specs.Cmp.Lexicographic.{pointwise}
use Rattle.std.proofs.lemmas.Cmp.{int_eq_equiv, eq_by_cmp_equiv, nat_list_cmp_total}
use Rattle.sqlval.specs.declared.truth.Truth.TheVariants.{True}
use Rattle.sqlval.specs.declared.comparison.CompOp.{CompOp}
use Rattle.sqlval.specs.declared.comparison.CompOp.TheVariants as by
use Rattle.sqlval.specs.declared.value.Value.{Value}
use Rattle.sqlval.specs.declared.value.Value.TheVariants.{Null, Int, Text}
use Rattle.sqlval.specs.Matching.{is_equal, matches}
use Rattle.sqlval.specs.Truth.{truth_of, same_truth}
use Rattle.sqlval.specs.Value.{Row}
use Rattle.denote.specs.Evaluation.{Env}
use Rattle.denote.specs.Expression.{cell}
use Rattle.denote.specs.Meaning.{Tables}
use Rattle.algebra.specs.declared.tree.Condition.{Condition, Condition-F, out-Condition}
use Rattle.algebra.specs.declared.tree.Expression.{Expression, out-Expression}
use Rattle.algebra.specs.Meaning.{condition_step}
use Rattle.algebra.specs.Raising.{condition_may_raise}
use Rattle.algebra.specs.TreeOutcome.{tree_truth}
use Rattle.key_lookups.specs.Sought.{Layer, compared_literal, conjuncts_at, first_or, key_among, key_sought, literal_beside, literal_for, literal_in, put_value}
use Rattle.key_lookups.proofs.Truths.{IsTrueAt, conjuncts_true, condition_meant, equality_true, sides, truth_is}

is_equal-turned : (x y : Value) → is_equal x y ≡ is_equal y x
is_equal-turned Null Null = refl
is_equal-turned Null (Int y) = refl
is_equal-turned Null (Text y) = refl
is_equal-turned (Int x) Null = refl
is_equal-turned (Int x) (Int y) = ap (λ b. same_truth (truth_of b) True) (int_eq_equiv.symm x y)
is_equal-turned (Int x) (Text y) = refl
is_equal-turned (Text x) Null = refl
is_equal-turned (Text x) (Int y) = refl
is_equal-turned (Text x) (Text y) = ap (λ b. same_truth (truth_of b) True) ((eq_by_cmp_equiv nat_list_cmp_total).symm x y)

module _ (tables : Tables) (row : Row) (outer : Env) where
  -- an equality of the column with a literal, true at the row
  compare_asked : (place : ℕ) (operator : CompOp) (left right : Expression) (x : Value) → compared_literal place operator (out-Expression left) (out-Expression right) ≡ Some x
      → condition_step (condition_meant tables (Condition-F.Compare operator left right)) (row ∷ outer) ≡ Ok True → is_equal (cell row place) x ≡ true
  compare_asked place by.Equal left right x e h = at (literal_beside place (out-Expression left) (out-Expression right)) refl e
    where
      at : (o : Option Value) → literal_beside place (out-Expression left) (out-Expression right) ≡ o → first_or o (literal_beside place (out-Expression right) (out-Expression left)) ≡ Some x
          → is_equal (cell row place) x ≡ true
      at (Some y) is e =
          let same : Some y ≡ Some x = e in
          let two = sides tables place left right x row outer (is ∙ same) in
          equality_true tables left right (row ∷ outer) (cell row place) x two.0 two.1 h
      at None is e =
          let two = sides tables place right left x row outer e in
          is_equal-turned (cell row place) x ∙ equality_true tables left right (row ∷ outer) x (cell row place) two.1 two.0 h
  compare_asked place by.NotEqual left right x e h = absurd (cc (e))
  compare_asked place by.Less left right x e h = absurd (cc (e))
  compare_asked place by.Greater left right x e h = absurd (cc (e))
  compare_asked place by.LessOrEqual left right x e h = absurd (cc (e))
  compare_asked place by.GreaterOrEqual left right x e h = absurd (cc (e))

  one_asked : (place : ℕ) (d : Layer Condition-F) (x : Value) → literal_in place d ≡ Some x → condition_step (condition_meant tables d) (row ∷ outer) ≡ Ok True → is_equal (cell row place) x ≡ true
  one_asked place (Condition-F.Compare operator left right) x e h = compare_asked place operator left right x e h
  one_asked place (Condition-F.And operands) x e h = absurd (cc (e))
  one_asked place (Condition-F.Or operands) x e h = absurd (cc (e))
  one_asked place (Condition-F.Not operand) x e h = absurd (cc (e))
  one_asked place (Condition-F.IsTruth operand truth) x e h = absurd (cc (e))
  one_asked place (Condition-F.Between operand low high) x e h = absurd (cc (e))
  one_asked place (Condition-F.InList operand values) x e h = absurd (cc (e))
  one_asked place (Condition-F.InQuery operand tree) x e h = absurd (cc (e))
  one_asked place (Condition-F.Like operand pattern) x e h = absurd (cc (e))
  one_asked place (Condition-F.IsNull operand) x e h = absurd (cc (e))
  one_asked place (Condition-F.Exists tree) x e h = absurd (cc (e))

  column_asked : (place : ℕ) (conditions : List Condition) (x : Value) → literal_for place conditions ≡ Some x → AllByRecursion (IsTrueAt tables (row ∷ outer)) conditions
      → is_equal (cell row place) x ≡ true
  column_asked place [] x e h = absurd (cc (e))
  column_asked place (c ∷ conditions) x e h = at (literal_in place (out-Condition c)) refl e (column_asked place conditions x)
    where
      at : (o : Option Value) → literal_in place (out-Condition c) ≡ o → first_or o (literal_for place conditions) ≡ Some x
          → (literal_for place conditions ≡ Some x → AllByRecursion (IsTrueAt tables (row ∷ outer)) conditions → is_equal (cell row place) x ≡ true) → is_equal (cell row place) x ≡ true
      at (Some y) is e rest =
          let same : Some y ≡ Some x = e in
          one_asked place (out-Condition c) x (is ∙ same) (sym (ap (λ f. f (row ∷ outer)) (truth_is tables c)) ∙ h.0)
      at None is e rest = rest e h.1

  same_some : {A : Type 0} {x y : A} → Some x ≡ Some y → x ≡ y
  same_some e = cc

  columns_asked : (conditions : List Condition) (columns : List ℕ) (key : List Value) → key_among conditions columns ≡ Some key → AllByRecursion (IsTrueAt tables (row ∷ outer)) conditions
      → matches columns key row ≡ true
  columns_asked conditions [] key e h = let same : [] ≡ key = same_some e in ap (λ k. pointwise is_equal [] k) (sym same)
  columns_asked conditions (column ∷ columns) key e h =
      at (literal_for column conditions) refl (key_among conditions columns) refl e (λ rest is. columns_asked conditions columns rest is h)
    where
      at : (o : Option Value) → literal_for column conditions ≡ o → (p : Option (List Value)) → key_among conditions columns ≡ p → put_value o p ≡ Some key
          → ((rest : List Value) → key_among conditions columns ≡ Some rest → matches columns rest row ≡ true) → matches (column ∷ columns) key row ≡ true
      at (Some x) first_is (Some rest) rest_is e go =
          let same : x ∷ rest ≡ key = same_some e in
          let here = column_asked column conditions x first_is h in
          let others = go rest rest_is in
          ap (λ k. matches (column ∷ columns) k row) (sym same) ∙ (rw (here, others) refl)
      at (Some x) first_is None rest_is e go = absurd (cc (e))
      at None first_is p rest_is e go = absurd (cc (e))

-- what is asked for is asked of the conjuncts of a condition that raises no fault
pub asked : (columns : List ℕ) (c : Condition) (key : List Value) → key_sought columns c ≡ Some key → (condition_may_raise c ≡ false) × (key_among (conjuncts_at (out-Condition c) c) columns ≡ Some key)
asked columns c key e = at (condition_may_raise c) refl e
  where
    at : (b : Bool) → condition_may_raise c ≡ b → (if b then None else key_among (conjuncts_at (out-Condition c) c) columns) ≡ Some key
        → (condition_may_raise c ≡ false) × (key_among (conjuncts_at (out-Condition c) c) columns ≡ Some key)
    at true is e = absurd (cc (e))
    at false is e = (is, e)

pub matching : (tables : Tables) (c : Condition) (columns : List ℕ) (key : List Value) (row : Row) (outer : Env) → key_sought columns c ≡ Some key → tree_truth tables c (row ∷ outer) ≡ Ok True
    → matches columns key row ≡ true
matching tables c columns key row outer e h =
    columns_asked tables row outer (conjuncts_at (out-Condition c) c) columns key (asked columns c key e).1 (conjuncts_true tables c (row ∷ outer) h)
