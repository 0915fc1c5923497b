-- How many pages there are.
use Rattle.std.proofs.Common.{◌≡◌, ◌≢◌, ℕ, zero, suc, ◌+◌, ◌<◌, ◌≤◌, ◌^◌, ◌==◌, Bool, true, false, Option, Some, None, List, IsSome, refl, sym, ap, ◌∙◌, arith, cond, if◌then◌else◌, eqb-true, eq-eqb}
use Rattle.std.specs.Option.{is_some}
use Rattle.pool.specs.Pages.{PageMap, over, only, pick}
use Rattle.overlay.specs.Layers.{count_below, size_of}

bit_le : (b : Bool) → cond b 1 0 ≤ 1
bit_le true = omega arith
bit_le false = omega arith

pub count_le : (bound : ℕ) (p : PageMap) → count_below bound p ≤ bound
unfolding count_below
count_le zero p = omega arith
count_le (suc n) p = let before = count_le n p in let bit = bit_le (is_some (p n)) in omega (arith, before, bit)

pub count_none : (bound : ℕ) → count_below bound (λ n. None) ≡ 0
unfolding count_below
count_none zero = refl
count_none (suc n) = let before = count_none n in omega (arith, before)

pub count_same : (bound : ℕ) (p q : PageMap) → ((n : ℕ) → n < bound → is_some (p n) ≡ is_some (q n)) → count_below bound p ≡ count_below bound q
unfolding count_below
count_same zero p q same = refl
count_same (suc n) p q same = step (count_below n p) (count_below n q) (is_some (p n)) (is_some (q n)) (count_same n p q (λ k less. same k (omega arith))) (same n (omega arith))
  where
    step : (a b : ℕ) (x y : Bool) → a ≡ b → x ≡ y → a + cond x 1 0 ≡ b + cond y 1 0
    step a b x y e f = ap (λ k. k + cond x 1 0) e ∙ ap (λ t. b + cond t 1 0) f

pub count_fewer : (bound : ℕ) (p q : PageMap) → ((n : ℕ) → IsSome (p n) → IsSome (q n)) → count_below bound p ≤ count_below bound q
unfolding count_below
count_fewer zero p q more = omega arith
count_fewer (suc n) p q more = step (count_below n p) (count_below n q) (is_some (p n)) (is_some (q n)) (count_fewer n p q more) (more n)
  where
    step : (a b : ℕ) (x y : Bool) → a ≤ b → (x ≡ true → y ≡ true) → a + cond x 1 0 ≤ b + cond y 1 0
    step a b true true e f = omega arith
    step a b true false e f = let bad : false ≡ true = f refl in cc
    step a b false true e f = omega arith
    step a b false false e f = omega arith

-- one page more
pub count_more : (bound : ℕ) (p q : PageMap) (k : ℕ) → k < bound → is_some (p k) ≡ false → is_some (q k) ≡ true
    → ((n : ℕ) → n ≢ k → is_some (q n) ≡ is_some (p n)) → count_below bound q ≡ count_below bound p + 1
unfolding count_below
count_more zero p q k less none some same = absurd (omega arith)
count_more (suc n) p q k less none some same = cases_of (λ small. count_more n p q k small none some same) (k == n) refl
  where
    last : (a b : ℕ) (x y : Bool) → a ≡ b → x ≡ true → y ≡ false → a + cond x 1 0 ≡ (b + cond y 1 0) + 1
    last a b true false e f g = omega arith
    last a b true true e f g = cc
    last a b false true e f g = cc
    last a b false false e f g = cc

    before : (a b : ℕ) (x y : Bool) → a ≡ b + 1 → x ≡ y → a + cond x 1 0 ≡ (b + cond y 1 0) + 1
    before a b x true e f = rw f (omega arith)
    before a b x false e f = rw f (omega arith)

    smaller : (k n : ℕ) → k < suc n → (k ≡ n → ⊥) → k < n
    smaller k n less other = omega arith

    apart : (m k n : ℕ) → m < n → k ≡ n → m ≢ k
    apart m k n small is = omega arith

    cases_of : (k < n → count_below n q ≡ count_below n p + 1) → (b : Bool) → (k == n) ≡ b → count_below n q + cond (is_some (q n)) 1 0 ≡ (count_below n p + cond (is_some (p n)) 1 0) + 1
    cases_of rest true e = let is : k ≡ n = eqb-true k n e in
        last (count_below n q) (count_below n p) (is_some (q n)) (is_some (p n))
        (count_same n q p (λ m small. same m (apart m k n small is))) (ap (λ m. is_some (q m)) (sym is) ∙ some) (ap (λ m. is_some (p m)) (sym is) ∙ none)
    cases_of rest false e = before (count_below n q) (count_below n p) (is_some (q n)) (is_some (p n))
        (rest (smaller k n less (differs e))) (same n (λ h. differs e (sym h)))
      where
        differs : (k == n) ≡ false → k ≡ n → ⊥
        differs e h = let bad : true ≡ false = sym (eq-eqb k n h) ∙ e in cc
