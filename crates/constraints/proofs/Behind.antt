-- The rules that rows violate with more rows behind them: those that either violate alone, and the
-- keys that both have.
use Rattle.std.proofs.Common.{◌≡◌, ◌∙◌, refl, ap, ℕ, ◌<◌, Bool, true, false, ◌&&◌, ◌||◌, List, [], ◌∷◌, ◌++◌, Some, None, arith}
use Rattle.std.specs.Prelude.{nat_lt}
use Rattle.std.specs.List.{list_any}
use Rattle.std.specs.Cmp.{eq_by_cmp_equiv}
use Rattle.std.specs.Cmp.Lexicographic.{pointwise, nat_list_cmp_total}
use Rattle.std.specs.Ordering.{is_eq, int_cmp}
use Rattle.std.specs.declared.cmp.Ordering.{Ordering}
use Rattle.std.specs.declared.cmp.Ordering.TheVariants.{Less, Equal, Greater}
use Rattle.std.proofs.lemmas.Cmp.{int_eq_equiv}
use Rattle.std.proofs.lemmas.List.Folds.{list_any-append}
use Rattle.sqlval.specs.declared.schema.Rule.{Rule}
use Rattle.sqlval.specs.declared.schema.Rule.TheVariants.{NotNull, PrimaryKey, Unique, Check, ForeignKey}
use Rattle.sqlval.specs.declared.schema.Table as declared
use Rattle.sqlval.specs.declared.truth.Truth.TheVariants.{True}
use Rattle.sqlval.specs.declared.value.Value.{Value}
use Rattle.sqlval.specs.declared.value.Value.TheVariants.{Null, Int, Text}
use Rattle.sqlval.specs.Comparison.{text_order}
use Rattle.sqlval.specs.Matching.{key_of, is_equal, matches}
use Rattle.sqlval.specs.Truth.{truth_of, same_truth}
use Rattle.sqlval.specs.Value.{Row, is_null}
use Rattle.sqlval.proofs.ValueOrderLaws.{value_order-level}
use Rattle.denote.specs.Database.{Name, CheckReading, table_of, check_at, is_false, has_null, has_twins, is_violated}
use Rattle.constraints.specs.Foreseen.{columns_of_key, meets}

same_some : {X : Type 0} (x y : X) → Some x ≡ Some y → x ≡ y
same_some x y e = cc

-- ---- numbers

pub more-counts : (m n : ℕ) → nat_lt m n ≡ true → m < n
more-counts m n e = grind (arith, e)

pub counts-more : (m n : ℕ) → m < n → nat_lt m n ≡ true
counts-more m n e = grind (arith, e)

-- ---- equality of values has no direction

equal-turned : (x y : Value) → is_equal x y ≡ is_equal y x
equal-turned Null Null = refl
equal-turned Null (Int y) = refl
equal-turned Null (Text y) = refl
equal-turned (Int x) Null = refl
equal-turned (Int x) (Int y) = ap (λ b. same_truth (truth_of b) True) (int_eq_equiv.symm x y)
equal-turned (Int x) (Text y) = refl
equal-turned (Text x) Null = refl
equal-turned (Text x) (Int y) = refl
equal-turned (Text x) (Text y) = ap (λ b. same_truth (truth_of b) True) ((eq_by_cmp_equiv nat_list_cmp_total).symm x y)

pub keys-turned : (xs ys : List Value) → pointwise is_equal xs ys ≡ pointwise is_equal ys xs
keys-turned [] [] = refl
keys-turned [] (y ∷ ys) = refl
keys-turned (x ∷ xs) [] = refl
keys-turned (x ∷ xs) (y ∷ ys) = rw (equal-turned x y, keys-turned xs ys) refl

-- ---- and equal values are one value

level : (r : Ordering) → same_truth (truth_of (is_eq r)) True ≡ true → r ≡ Equal
level Less e = absurd (cc)
level Equal e = refl
level Greater e = absurd (cc)

equal-one : (x y : Value) → is_equal x y ≡ true → x ≡ y
equal-one Null Null e = refl
equal-one Null (Int y) e = absurd (cc)
equal-one Null (Text y) e = absurd (cc)
equal-one (Int x) Null e = absurd (cc)
equal-one (Int x) (Int y) e = value_order-level (Int x) (Int y) (level (int_cmp x y) e)
equal-one (Int x) (Text y) e = absurd (cc)
equal-one (Text x) Null e = absurd (cc)
equal-one (Text x) (Int y) e = absurd (cc)
equal-one (Text x) (Text y) e = value_order-level (Text x) (Text y) (level (text_order x y) e)

both-true : (a b : Bool) → (a && b) ≡ true → (a ≡ true) × (b ≡ true)
both-true true true e = (refl, refl)
both-true true false e = absurd (cc)
both-true false b e = absurd (cc)

pub equal-keys : (xs ys : List Value) → pointwise is_equal xs ys ≡ true → xs ≡ ys
equal-keys [] [] e = refl
equal-keys [] (y ∷ ys) e = absurd (cc)
equal-keys (x ∷ xs) [] e = absurd (cc)
equal-keys (x ∷ xs) (y ∷ ys) e =
    let both = both-true (is_equal x y) (pointwise is_equal xs ys) e in
    let head = equal-one x y both.0 in
    let tail = equal-keys xs ys both.1 in
    cc

-- ---- twins

any-either : {X : Type 0} (p q : X → Bool) (xs : List X) → list_any (λ x. p x || q x) xs ≡ (list_any p xs || list_any q xs)
any-either p q [] = refl
any-either p q (x ∷ xs) = ap (λ b. (p x || q x) || b) (any-either p q xs) ∙ four (p x) (q x) (list_any p xs) (list_any q xs)
  where
    four : (a b c d : Bool) → ((a || b) || (c || d)) ≡ ((a || c) || (b || d))
    four true b c d = refl
    four false true true d = refl
    four false true false d = refl
    four false false true d = refl
    four false false false d = refl

none-met : (columns : List ℕ) (new : List Row) → meets columns [] new ≡ false
none-met columns [] = refl
none-met columns (row ∷ new) = none-met columns new

pub any-same : {X : Type 0} (p q : X → Bool) (xs : List X) → ((x : X) → p x ≡ q x) → list_any p xs ≡ list_any q xs
any-same p q [] h = refl
any-same p q (x ∷ xs) h = rw (h x, any-same p q xs h) refl

or-false : (b : Bool) → b ≡ (b || false)
or-false true = refl
or-false false = refl

module _ (columns : List ℕ) where
  -- a row that is there has the key of one of the new rows
  first-met : (row : Row) (old new : List Row) → meets columns (row ∷ old) new ≡ (list_any (matches columns (key_of columns row)) new || meets columns old new)
  first-met row old new =
      any-either (λ (one : Row). matches columns (key_of columns one) row) (λ (one : Row). list_any (matches columns (key_of columns one)) old) new
      ∙ ap (λ b. b || meets columns old new)
      (any-same (λ (one : Row). matches columns (key_of columns one) row) (matches columns (key_of columns row)) new (λ one. keys-turned (key_of columns row) (key_of columns one)))

  pub twins-behind : (old new : List Row) → has_twins columns (old ++ new) ≡ (has_twins columns old || (has_twins columns new || meets columns old new))
  twins-behind [] new = rw (none-met columns new) (or-false (has_twins columns new))
  twins-behind (row ∷ old) new =
      rw (list_any-append (matches columns (key_of columns row)) old new, twins-behind old new, first-met row old new)
      (five (list_any (matches columns (key_of columns row)) old) (list_any (matches columns (key_of columns row)) new) (has_twins columns old) (has_twins columns new) (meets columns old new))
    where
      five : (a b c d e : Bool) → ((a || b) || (c || (d || e))) ≡ ((a || c) || (d || (b || e)))
      five true b c d e = refl
      five false true true d e = refl
      five false true false true e = refl
      five false true false false e = refl
      five false false c d e = refl

-- ---- rules

-- whether both lists of rows have a key that a rule asks for
abbrev pub meets_rule : Rule → List Row → List Row → Bool
meets_rule (NotNull column) old new = false
meets_rule (PrimaryKey columns) old new = meets columns old new
meets_rule (Unique columns) old new = meets columns old new
meets_rule (Check text) old new = false
meets_rule (ForeignKey reference) old new = false

six : (a b c d e : Bool) → ((a || b) || (c || (d || e))) ≡ ((a || c) || ((b || d) || e))
six true b c d e = refl
six false true true d e = refl
six false true false d e = refl
six false false c d e = refl

module _ (reading : CheckReading) (name : Name) (d : declared.Table) (old new : List Row) where
  pub rule-behind : (r : Rule) → is_violated reading name (table_of d (old ++ new)) r
      ≡ (is_violated reading name (table_of d old) r || (is_violated reading name (table_of d new) r || meets_rule r old new))
  rule-behind (NotNull column) =
      list_any-append (λ (row : Row). list_any is_null (key_of (column ∷ []) row)) old new
      ∙ ap (λ b. has_null (column ∷ []) old || b) (or-false (has_null (column ∷ []) new))
  rule-behind (PrimaryKey columns) =
      rw (list_any-append (λ (row : Row). list_any is_null (key_of columns row)) old new, twins-behind columns old new)
      (six (has_null columns old) (has_null columns new) (has_twins columns old) (has_twins columns new) (meets columns old new))
  rule-behind (Unique columns) = twins-behind columns old new
  rule-behind (Check text) =
      list_any-append (λ (row : Row). is_false (check_at (reading name d.columns text) row)) old new
      ∙ ap (λ b. list_any (λ (row : Row). is_false (check_at (reading name d.columns text) row)) old || b)
      (or-false (list_any (λ (row : Row). is_false (check_at (reading name d.columns text) row)) new))
  rule-behind (ForeignKey reference) = refl

-- of a rule that asks for a key, and of one that asks for none
pub asked-met : (r : Rule) (columns : List ℕ) (old new : List Row) → columns_of_key r ≡ Some columns → meets_rule r old new ≡ meets columns old new
asked-met (NotNull column) columns old new e = absurd (cc e)
asked-met (PrimaryKey own) columns old new e = let same : own ≡ columns = same_some own columns e in ap (λ c. meets c old new) same
asked-met (Unique own) columns old new e = let same : own ≡ columns = same_some own columns e in ap (λ c. meets c old new) same
asked-met (Check text) columns old new e = absurd (cc e)
asked-met (ForeignKey reference) columns old new e = absurd (cc e)

pub unasked-met : (r : Rule) (old new : List Row) → columns_of_key r ≡ None → meets_rule r old new ≡ false
unasked-met (NotNull column) old new e = refl
unasked-met (PrimaryKey own) old new e = absurd (cc e)
unasked-met (Unique own) old new e = absurd (cc e)
unasked-met (Check text) old new e = refl
unasked-met (ForeignKey reference) old new e = refl
