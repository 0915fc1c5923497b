-- What a set function makes of values does not depend on their order.
use Rattle.std.proofs.Common.{◌≡◌, refl, ap, sym, ◌∙◌, subst, ℕ, ℤ, pos, ◌+ℤ◌, int_div, Bool, true, false, not, if◌then◌else◌, List, [], ◌∷◌, length, Result, Ok, arith}
use Rattle.std.proofs.lemmas.Int.{ints}
use Rattle.std.specs.Prelude.{filter, fold}
use Rattle.std.specs.Ordering.{is_lt, ordering_reverse}
use Rattle.std.specs.declared.cmp.Ordering.{Ordering}
use Rattle.std.specs.declared.cmp.Ordering.TheVariants.{Less, Equal, Greater}
use Rattle.sqlval.specs.declared.value.Value.{Value}
use Rattle.sqlval.specs.declared.value.Value.TheVariants.{Null, Int, Text}
use Rattle.sqlval.specs.declared.code.Code.{Code}
use Rattle.sqlval.specs.Arithmetic.{in_range}
use Rattle.sqlval.specs.Comparison.{value_order}
use Rattle.sqlval.specs.Value.{is_null}
use Rattle.sqlval.proofs.ValueOrderLaws.{value_order-level, value_order_total}
use Rattle.typing.specs.declared.typed.SetFunctionType.{SetFunctionType}
use Rattle.typing.specs.declared.typed.SetFunctionType.TheVariants.{Count, Sum, Avg, Min, Max}
use Rattle.denote.specs.Bag.{is_alike, distinct_by, Permutes, nothing, keeps, exchanges, goes_on}
use Rattle.denote.specs.Group.{taken, total, lesser, greater, aggregated}
use Rattle.operator_laws.proofs.Multiplicity.{is_alike-symm}
use Rattle.operator_laws.proofs.Alike.{is_alike-equal}
use Rattle.operator_laws.proofs.Orders.{built-permutes, fold-permutes, length-permutes, Permutes-filter, distinct-permutes}

-- ---- the one of two values that stands further on one side

-- a test of two values that is one side of a total order
record IsSide (further : Value → Value → Bool) : Type 0 where
  apart : (x y : Value) → further x y ≡ true → further y x ≡ false
  level : (x y : Value) → further x y ≡ false → further y x ≡ false → x ≡ y
  on : (x y z : Value) → further x y ≡ true → further y z ≡ true → further x z ≡ true

abbrev picked : (Value → Value → Bool) → Value → Value → Value
picked further x y = if further x y then y else x

picked-commutes : (further : Value → Value → Bool) → IsSide further → (x y : Value) → picked further x y ≡ picked further y x
picked-commutes further side x y = at (further x y) refl (further y x) refl
  where
    at : (b : Bool) → further x y ≡ b → (c : Bool) → further y x ≡ c → (if b then y else x) ≡ (if c then x else y)
    at true e true f = absurd (cc (side.apart x y e))
    at true e false f = refl
    at false e true f = refl
    at false e false f = side.level x y e f

-- where y is not further than x, and z not further than y, z is not further than x
side-back : (further : Value → Value → Bool) → IsSide further → (x y z : Value) → further x y ≡ false → further y z ≡ false → further x z ≡ false
side-back further side x y z e f = at (further x z) refl (further y x) refl
  where
    at : (b : Bool) → further x z ≡ b → (c : Bool) → further y x ≡ c → further x z ≡ false
    at false g c h = g
    at true g true h = absurd (cc (side.on y x z h g))
    at true g false h = absurd (cc (subst (λ w. further w z ≡ true) (side.level x y e h) g))

picked-associates : (further : Value → Value → Bool) → IsSide further → (x y z : Value)
    → picked further (picked further x y) z ≡ picked further x (picked further y z)
picked-associates further side x y z = at (further x y) refl (further y z) refl
  where
    at : (b : Bool) → further x y ≡ b → (c : Bool) → further y z ≡ c → picked further (if b then y else x) z ≡ picked further x (if c then z else y)
    at true e true f = ap (λ t. if t then z else y) f ∙ sym (ap (λ t. if t then z else x) (side.on x y z e f))
    at true e false f = ap (λ t. if t then z else y) f ∙ sym (ap (λ t. if t then y else x) e)
    at false e true f = refl
    at false e false f = ap (λ t. if t then z else x) (side-back further side x y z e f) ∙ sym (ap (λ t. if t then y else x) e)

picked-swap : (further : Value → Value → Bool) → IsSide further → (r x y : Value) → picked further (picked further r x) y ≡ picked further (picked further r y) x
picked-swap further side r x y =
    picked-associates further side r x y ∙ ap (picked further r) (picked-commutes further side x y) ∙ sym (picked-associates further side r y x)

-- ---- the two sides of the value order

turned : (o : Ordering) → is_lt o ≡ true → is_lt (ordering_reverse o) ≡ false
turned Less e = refl
turned Equal e = refl
turned Greater e = absurd (cc)

level_order : (o : Ordering) → is_lt o ≡ false → is_lt (ordering_reverse o) ≡ false → o ≡ Equal
level_order Less e f = absurd (cc)
level_order Equal e f = refl
level_order Greater e f = absurd (cc)

less_order : (o : Ordering) → is_lt o ≡ true → o ≡ Less
less_order Less e = refl
less_order Equal e = absurd (cc)
less_order Greater e = absurd (cc)

above-side : IsSide (λ x y. is_lt (value_order x y))
above-side = record {
  apart = λ x y e. ap is_lt (value_order_total.antisymm y x) ∙ turned (value_order x y) e;
  level = λ x y e f. value_order-level x y (level_order (value_order x y) e (sym (ap is_lt (value_order_total.antisymm y x)) ∙ f));
  on = λ x y z e f. ap is_lt (value_order_total.trans x y z (less_order (value_order x y) e) (less_order (value_order y z) f));
}

below-side : IsSide (λ x y. is_lt (value_order y x))
below-side = record {
  apart = λ x y e. above-side.apart y x e;
  level = λ x y e f. above-side.level x y f e;
  on = λ x y z e f. above-side.on z y x f e;
}

-- ---- sums

amount : Value → ℤ
amount Null = pos 0
amount (Int x) = x
amount (Text x) = pos 0

plus-swap : (x y z : ℤ) → x +ℤ (y +ℤ z) ≡ y +ℤ (x +ℤ z)
plus-swap x y z = omega (arith, ints)

plus-none : (x : ℤ) → x ≡ pos 0 +ℤ x
plus-none x = omega (arith, ints)

total-cons : (x : Value) (xs : List Value) → total (x ∷ xs) ≡ amount x +ℤ total xs
unfolding amount
total-cons Null xs = plus-none (total xs)
total-cons (Int x) xs = refl
total-cons (Text x) xs = plus-none (total xs)

total-permutes : (xs ys : List Value) → Permutes xs ys → total xs ≡ total ys
total-permutes xs ys p = built-permutes total (λ x z. amount x +ℤ z) total-cons (λ x y z. plus-swap (amount x) (amount y) z) xs ys p

-- ---- what is made of the values taken

lesser-swap : (r x y : Value) → lesser (lesser r x) y ≡ lesser (lesser r y) x
lesser-swap r x y = picked-swap (λ a b. is_lt (value_order b a)) below-side r x y

greater-swap : (r x y : Value) → greater (greater r x) y ≡ greater (greater r y) x
greater-swap r x y = picked-swap (λ a b. is_lt (value_order a b)) above-side r x y

least-permutes : (xs ys : List Value) → Permutes xs ys → aggregated Min xs ≡ aggregated Min ys
least-permutes _ _ nothing = refl
least-permutes _ _ (keeps x {xs = xs} {ys = ys} p) = ap Ok (fold-permutes lesser lesser-swap xs ys p x)
least-permutes _ _ (exchanges x y xs) = ap (λ r. Ok (fold lesser r xs)) (picked-commutes (λ a b. is_lt (value_order b a)) below-side x y)
least-permutes _ _ (goes_on {xs = xs} {ys = ys} {zs = zs} p q) = least-permutes xs ys p ∙ least-permutes ys zs q

greatest-permutes : (xs ys : List Value) → Permutes xs ys → aggregated Max xs ≡ aggregated Max ys
greatest-permutes _ _ nothing = refl
greatest-permutes _ _ (keeps x {xs = xs} {ys = ys} p) = ap Ok (fold-permutes greater greater-swap xs ys p x)
greatest-permutes _ _ (exchanges x y xs) = ap (λ r. Ok (fold greater r xs)) (picked-commutes (λ a b. is_lt (value_order a b)) above-side x y)
greatest-permutes _ _ (goes_on {xs = xs} {ys = ys} {zs = zs} p q) = greatest-permutes xs ys p ∙ greatest-permutes ys zs q

-- a sum or an average, which is null over no values
some-permutes : (made : ℤ → ℕ → Result Value Code) (F : List Value → Result Value Code) → F [] ≡ Ok Null
    → ((x : Value) (xs : List Value) → F (x ∷ xs) ≡ made (total (x ∷ xs)) (length (x ∷ xs)))
    → (xs ys : List Value) → Permutes xs ys → F xs ≡ F ys
some-permutes made F none some [] [] p = refl
some-permutes made F none some [] (y ∷ ys) p = absurd (omega (arith, length-permutes [] (y ∷ ys) p))
some-permutes made F none some (x ∷ xs) [] p = absurd (omega (arith, length-permutes (x ∷ xs) [] p))
some-permutes made F none some (x ∷ xs) (y ∷ ys) p =
    some x xs ∙ ap (λ t. made t (length (x ∷ xs))) (total-permutes (x ∷ xs) (y ∷ ys) p)
    ∙ ap (made (total (y ∷ ys))) (length-permutes (x ∷ xs) (y ∷ ys) p) ∙ sym (some y ys)

pub aggregated-permutes : (function : SetFunctionType) (xs ys : List Value) → Permutes xs ys → aggregated function xs ≡ aggregated function ys
aggregated-permutes Count xs ys p = ap (λ n. in_range (pos n)) (length-permutes xs ys p)
aggregated-permutes Sum xs ys p = some-permutes (λ t n. in_range t) (aggregated Sum) refl (λ x xs. refl) xs ys p
aggregated-permutes Avg xs ys p = some-permutes (λ t n. in_range (int_div t (pos n))) (aggregated Avg) refl (λ x xs. refl) xs ys p
aggregated-permutes Min xs ys p = least-permutes xs ys p
aggregated-permutes Max xs ys p = greatest-permutes xs ys p

pub taken-permutes : (is_distinct : Bool) (xs ys : List Value) → Permutes xs ys → Permutes (taken is_distinct xs) (taken is_distinct ys)
taken-permutes false xs ys p = Permutes-filter (λ x. not (is_null x)) xs ys p
taken-permutes true xs ys p =
    distinct-permutes is_alike (distinct_by is_alike) is_alike-equal is_alike-symm refl (λ x xs. refl) (filter (λ x. not (is_null x)) xs)
    (filter (λ x. not (is_null x)) ys)
    (Permutes-filter (λ x. not (is_null x)) xs ys p)
