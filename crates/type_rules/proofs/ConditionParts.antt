-- Conditions whose parts are found.
use Rattle.std.proofs.Common.{◌≡◌, ℕ, Bool, List, [], ◌∷◌, ◌++◌, map, length, get_or, ◌≤◌, Ok, Err, refl, ◌∙◌, ap, arith, rules}
use Rattle.sqlval.specs.declared.value.Value.{Value}
use Rattle.refusals.specs.declared.refusal.Refusal.{Refusal}
use Rattle.ast.specs.declared.operator.Comparison.{Comparison}
use Rattle.ast.specs.declared.operator.Literal.{Literal}
use Rattle.typing.specs.declared.typed.Expression.{Expression as Typed}
use Rattle.typing.specs.declared.typed.Condition.{Condition, Condition-F, out-Condition, the_lemmas}
use Rattle.typing.specs.declared.typed.Condition.TheVariants as condition
use Rattle.typing.specs.declared.scope.TypedExpression.{TypedExpression}
use Rattle.typing.specs.Finding.{Finding, ◌>>=◌, also, each}
use Rattle.typing.specs.Finds.{Finds}
use Rattle.typing.specs.Condition.{alike, and_of, between, compared, conjuncts, disjuncts, in_list, literal_of, negated, operator_of, or_of}
use Rattle.typing.specs.Expression.{must_be}
use Rattle.type_rules.proofs.FindsLemmas.{Finds-then_err, Finds-also_first}
use Rattle.type_rules.specs.Parts.{between_of, compare_of, list_of, of_type}

-- ---- what an OR and an AND are made of

or-out : (parts : List Condition) → out-Condition (condition.Or parts) ≡ Condition-F.Or parts
or-out parts = search (rules, the_lemmas)

and-out : (parts : List Condition) → out-Condition (condition.And parts) ≡ Condition-F.And parts
and-out parts = search (rules, the_lemmas)

pub disjuncts-or : (parts : List Condition) → disjuncts (condition.Or parts) ≡ parts
disjuncts-or parts = rw (or-out parts) refl

pub conjuncts-and : (parts : List Condition) → conjuncts (condition.And parts) ≡ parts
conjuncts-and parts = rw (and-out parts) refl

pub or_of-one : (xs front : List Condition) (last : Condition) → length xs ≡ 1 → xs ≡ front ++ last ∷ [] → or_of xs ≡ last
or_of-one [] front last h e = absurd (omega (arith, h))
or_of-one (x ∷ []) [] last h e = ap (λ cs. get_or cs 0 x) e
or_of-one (x ∷ []) (y ∷ front) last h e = absurd (omega (arith, ap length e, length-last front last))
  where
    length-last : (front : List Condition) (last : Condition) → 1 ≤ length (front ++ last ∷ [])
    length-last [] last = omega arith
    length-last (y ∷ front) last = omega arith
or_of-one (x ∷ y ∷ xs) front last h e = absurd (omega (arith, h))

pub or_of-more : (xs : List Condition) → (length xs ≡ 1 → ⊥) → or_of xs ≡ condition.Or xs
or_of-more [] n = refl
or_of-more (x ∷ []) n = absurd (n refl)
or_of-more (x ∷ y ∷ xs) n = refl

pub and_of-one : (xs front : List Condition) (last : Condition) → length xs ≡ 1 → xs ≡ front ++ last ∷ [] → and_of xs ≡ last
and_of-one [] front last h e = absurd (omega (arith, h))
and_of-one (x ∷ []) [] last h e = ap (λ cs. get_or cs 0 x) e
and_of-one (x ∷ []) (y ∷ front) last h e = absurd (omega (arith, ap length e, length-last front last))
  where
    length-last : (front : List Condition) (last : Condition) → 1 ≤ length (front ++ last ∷ [])
    length-last [] last = omega arith
    length-last (y ∷ front) last = omega arith
and_of-one (x ∷ y ∷ xs) front last h e = absurd (omega (arith, h))

pub and_of-more : (xs : List Condition) → (length xs ≡ 1 → ⊥) → and_of xs ≡ condition.And xs
and_of-more [] n = refl
and_of-more (x ∷ []) n = absurd (n refl)
and_of-more (x ∷ y ∷ xs) n = refl

-- ---- predicates, where their first operand is found

-- what follows from the operands
abbrev with_first : Typed → Finding Typed → Finding (Typed × Typed)
with_first first found = found >>= (λ second. Ok (first, second))

abbrev bounds_of : Bool → Finding ((Typed × Typed) × (Typed × Typed)) → Finding Condition
bounds_of n found = found >>= (λ p. Ok (negated n (condition.Between (p.0).0 (p.0).1 (p.1).1)))

alike-parts : (v : TypedExpression) (y : Finding TypedExpression) → alike (Ok v) y ≡ with_first v.expression (of_type v.value_type y)
alike-parts v (Ok w) = refl
alike-parts v (Err reasons) = refl

pub compared-parts : (operator : Comparison) (v : TypedExpression) (y : Finding TypedExpression) →
    compared operator (Ok v) y ≡ compare_of operator (also (Ok v.expression) (of_type v.value_type y))
compared-parts operator v y = ap (compare_of operator) (alike-parts v y) ∙ beside (of_type v.value_type y)
  where
    beside : (second : Finding Typed) → compare_of operator (with_first v.expression second) ≡ compare_of operator (also (Ok v.expression) second)
    beside (Ok x) = refl
    beside (Err reasons) = refl

pub between-parts : (n : Bool) (v : TypedExpression) (low high : Finding TypedExpression) →
    between n (Ok v) low high ≡ between_of n (also (Ok v.expression) (also (of_type v.value_type low) (of_type v.value_type high)))
between-parts n v low high =
    ap (λ p. bounds_of n (also p (alike (Ok v) high))) (alike-parts v low)
    ∙ (ap (λ p. bounds_of n (also (with_first v.expression (of_type v.value_type low)) p)) (alike-parts v high)
    ∙ beside (of_type v.value_type low) (of_type v.value_type high))
  where
    beside : (from to : Finding Typed) → bounds_of n (also (with_first v.expression from) (with_first v.expression to)) ≡ between_of n (also (Ok v.expression) (also from to))
    beside (Ok x) (Ok y) = refl
    beside (Ok x) (Err reasons) = refl
    beside (Err reasons) (Ok y) = refl
    beside (Err reasons) (Err others) = refl

pub in_list-parts : (n : Bool) (v : TypedExpression) (literals : List Literal) →
    in_list n (Ok v) literals ≡ list_of n (also (Ok v.expression) (each (map (literal_of v.value_type) literals)))
in_list-parts n v literals = beside (each (map (literal_of v.value_type) literals))
  where
    beside : (found : Finding (List Value)) → (found >>= (λ values. Ok (negated n (condition.InList v.expression values)))) ≡ list_of n (also (Ok v.expression) found)
    beside (Ok values) = refl
    beside (Err reasons) = refl

module _ (r : Refusal) where
  pub compared_first : (operator : Comparison) (x y : Finding TypedExpression) → Finds (Err r) x → Finds (Err r) (compared operator x y)
  compared_first operator x y h = Finds-then_err r (alike x y) (λ p. Ok (condition.Compare (operator_of operator) p.0 p.1)) (alike_first x y h)
    where
      alike_first : (x y : Finding TypedExpression) → Finds (Err r) x → Finds (Err r) (alike x y)
      alike_first x y h = Finds-then_err r (also x y) (λ q. must_be (q.0).value_type q.1 >>= (λ second. Ok ((q.0).expression, second))) (Finds-also_first r x y h)

  pub between_first : (n : Bool) (x low high : Finding TypedExpression) → Finds (Err r) x → Finds (Err r) (between n x low high)
  between_first n x low high h =
      Finds-then_err r (also (alike x low) (alike x high)) (λ p. Ok (negated n (condition.Between (p.0).0 (p.0).1 (p.1).1)))
      (Finds-also_first r (alike x low) (alike x high)
      (Finds-then_err r (also x low) (λ q. must_be (q.0).value_type q.1 >>= (λ second. Ok ((q.0).expression, second))) (Finds-also_first r x low h)))
