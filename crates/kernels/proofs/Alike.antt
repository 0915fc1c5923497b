-- Rows are alike where they stand level in the order of rows, and then they are equal.
use Rattle.std.proofs.Common.{◌≡◌, refl, ap, sym, ◌∙◌, ◌+◌, true, cond, List, ◌∷◌, ◌++◌}
use Rattle.std.specs.Bool.{Decides}
use Rattle.std.specs.Cmp.{IsEquivalence, Equal-is, eq_by_cmp_equiv, int_ranks, ranked_equal, signed_Decides, both_ways, unsigned_ties}
use Rattle.std.specs.Cmp.Lexicographic.{lists_ties, pointwise_decides}
use Rattle.std.specs.Ordering.{is_eq, eq_by_cmp, int_eq, int_cmp, nat_cmp}
use Rattle.std.specs.Prelude.{ℤ}
use Rattle.std.proofs.lemmas.List.Sums.{sum_by-append, sum_by-cons}
use Rattle.sqlval.specs.declared.value.Value.{Value}
use Rattle.sqlval.specs.declared.value.Value.TheVariants.{Null, Int, Text}
use Rattle.sqlval.specs.Comparison.{value_order}
use Rattle.sqlval.specs.Value.{Row}
use Rattle.sqlval.proofs.ValueOrderLaws.{value_order_total, value_order-level}
use Rattle.denote.specs.Bag.{is_alike, are_alike, times}
use Rattle.kernels.specs.KeyOrder.{row_order, row_order_total}

int_ties : (x y : ℤ) → int_eq x y ≡ is_eq (int_cmp x y)
int_ties x y =
    let d = ranked_equal x y (int_cmp x y) (int_ranks x y) in
    both_ways (int_eq x y) (is_eq (int_cmp x y)) (λ e. d.1 ((signed_Decides x y).0 e)) (λ e. (signed_Decides x y).1 (d.0 e))

is_alike-ties : (x y : Value) → is_alike x y ≡ eq_by_cmp value_order x y
is_alike-ties Null Null = refl
is_alike-ties Null (Int y) = refl
is_alike-ties Null (Text y) = refl
is_alike-ties (Int x) Null = refl
is_alike-ties (Int x) (Int y) = int_ties x y
is_alike-ties (Int x) (Text y) = refl
is_alike-ties (Text x) Null = refl
is_alike-ties (Text x) (Int y) = refl
is_alike-ties (Text x) (Text y) = lists_ties nat_cmp unsigned_ties x y

pub are_alike-ties : (a b : Row) → are_alike a b ≡ eq_by_cmp row_order a b
are_alike-ties a b = lists_ties value_order is_alike-ties a b

pub alike : IsEquivalence are_alike
alike =
    let e = eq_by_cmp_equiv row_order_total in
    record {
      refl = λ x. are_alike-ties x x ∙ e.refl x;
      symm = λ x y. are_alike-ties x y ∙ e.symm x y ∙ sym (are_alike-ties y x);
      congr = λ x y z h. are_alike-ties x z ∙ e.congr x y z (sym (are_alike-ties x y) ∙ h) ∙ sym (are_alike-ties y z);
    }

pub is_alike-Decides : (x y : Value) → Decides (is_alike x y) (x ≡ y)
is_alike-Decides x y =
    let level = eq_by_cmp_equiv value_order_total in (
      λ e. value_order-level x y ((Equal-is (value_order x y)).0 (sym (is_alike-ties x y) ∙ e)),
      λ e. ap (λ z. is_alike x z) (sym e) ∙ is_alike-ties x x ∙ level.refl x,
    )

pub are_alike-Decides : (a b : Row) → Decides (are_alike a b) (a ≡ b)
are_alike-Decides = pointwise_decides is_alike-Decides

-- ---- how often a row comes

pub times-cons : (row x : Row) (rows : List Row) → times row (x ∷ rows) ≡ cond (are_alike row x) 1 0 + times row rows
times-cons row x rows = sum_by-cons (λ y. cond (are_alike row y) 1 0) x rows

pub times-append : (row : Row) (xs ys : List Row) → times row (xs ++ ys) ≡ times row xs + times row ys
times-append row xs ys = sum_by-append (λ y. cond (are_alike row y) 1 0) xs ys

pub times-alike : (row other : Row) → are_alike row other ≡ true → (rows : List Row) → times row rows ≡ times other rows
times-alike row other e rows = ap (λ (x : Row). times x rows) ((are_alike-Decides row other).0 e)
