-- Sets of pages, by their entries.
use Rattle.std.proofs.Common.{◌≡◌, ◌≢◌, ℕ, ◌<◌, ◌==◌, Bool, true, false, List, [], ◌∷◌, Option, Some, None, refl, sym, ap, subst, ◌∙◌, cond, arith, length, get_or, suc, IsSome, ◌⊎◌, inl, inr, ◌||◌}
use Rattle.std.specs.Cmp.{unsigned_tied}
use Rattle.std.proofs.lemmas.Bool.{eq-eqb, eqb-true}
use Rattle.pool.specs.Pages.{pages_in, numbers_of}
use Rattle.std.specs.List.{list_any}
use Rattle.std.specs.Option.{is_some}

pub pages_cons : (n k : ℕ) (page : List ℕ) (rest : List (ℕ × List ℕ)) → pages_in ((k, page) ∷ rest) n ≡ cond (n == k) (Some page) (pages_in rest n)
pages_cons n k page rest = ap (λ b. cond b (Some page) (pages_in rest n)) (unsigned_tied n k)

pub pages_here : (k : ℕ) (page : List ℕ) (rest : List (ℕ × List ℕ)) → pages_in ((k, page) ∷ rest) k ≡ Some page
pages_here k page rest = pages_cons k k page rest ∙ ap (λ b. cond b (Some page) (pages_in rest k)) (eq-eqb k k refl)

pub pages_apart : (n k : ℕ) (page : List ℕ) (rest : List (ℕ × List ℕ)) → n ≢ k → pages_in ((k, page) ∷ rest) n ≡ pages_in rest n
pages_apart n k page rest differs = pages_cons n k page rest ∙ by (n == k) refl
  where
    by : (b : Bool) → (n == k) ≡ b → cond b (Some page) (pages_in rest n) ≡ pages_in rest n
    by true e = absurd (differs (eqb-true n k e))
    by false e = refl

pub not_some : IsSome {T = List ℕ} None → ⊥
not_some h = let bad : false ≡ true = h in cc

-- what holds of each number, holds of each page
pub of_numbers : (P : ℕ → Type 0) (set : List (ℕ × List ℕ)) → ((k : ℕ) → k < length (numbers_of set) → P (get_or (numbers_of set) k 0)) → (n : ℕ) → IsSome (pages_in set n) → P n
of_numbers P [] each n there = absurd (not_some there)
of_numbers P (e ∷ rest) each n there = choose P n e.0 (IsSome (pages_in rest n)) (each 0 (omega arith))
    (of_numbers P rest (λ k less. each (suc k) (omega arith)) n)
    (split n e.0 e.1 (pages_in rest n) (subst (λ (o : Option (List ℕ)). IsSome o) (pages_cons n e.0 e.1 rest) there))
  where
    choose : (Q : ℕ → Type 0) (n k : ℕ) (Rest : Type 0) → Q k → (Rest → Q n) → (n ≡ k) ⊎ Rest → Q n
    choose Q n k Rest here f (inl e) = subst Q (sym e) here
    choose Q n k Rest here f (inr r) = f r

    split : (n k : ℕ) (page : List ℕ) (o : Option (List ℕ)) → IsSome (cond (n == k) (Some page) o) → (n ≡ k) ⊎ IsSome o
    split n k page o h = by (n == k) refl h
      where
        by : (b : Bool) → (n == k) ≡ b → IsSome (cond b (Some page) o) → (n ≡ k) ⊎ IsSome o
        by true e h = inl (eqb-true n k e)
        by false e h = inr h

-- the number of each page is among those of the set
pub all_listed : (set : List (ℕ × List ℕ)) (n : ℕ) → IsSome (pages_in set n) → list_any (λ k. k == n) (numbers_of set) ≡ true
all_listed [] n there = absurd (not_some there)
all_listed (e ∷ rest) n there = by (n == e.0) refl (subst (λ (o : Option (List ℕ)). IsSome o) (pages_cons n e.0 e.1 rest) there) (all_listed rest n)
  where
    or_true : (b c : Bool) → c ≡ true → (b || c) ≡ true
    or_true true c h = refl
    or_true false c h = h

    by : (b : Bool) → (n == e.0) ≡ b → IsSome (cond b (Some e.1) (pages_in rest n)) → (IsSome (pages_in rest n) → list_any (λ k. k == n) (numbers_of rest) ≡ true)
        → ((e.0 == n) || list_any (λ k. k == n) (numbers_of rest)) ≡ true
    by true same h again = ap (λ b. b || list_any (λ k. k == n) (numbers_of rest)) (eq-eqb e.0 n (sym (eqb-true n e.0 same)))
    by false same h again = or_true (e.0 == n) (list_any (λ k. k == n) (numbers_of rest)) (again h)

-- and no other number is
pub listed_is : (set : List (ℕ × List ℕ)) (n : ℕ) → list_any (λ k. k == n) (numbers_of set) ≡ is_some (pages_in set n)
listed_is [] n = refl
listed_is (e ∷ rest) n = by (n == e.0) refl (listed_is rest n) ∙ ap (λ (o : Option (List ℕ)). is_some o) (sym (pages_cons n e.0 e.1 rest))
  where
    flipped : (b : Bool) → (n == e.0) ≡ b → (e.0 == n) ≡ b
    flipped true same = eq-eqb e.0 n (sym (eqb-true n e.0 same))
    flipped false apart = other (e.0 == n) refl
      where
        other : (b : Bool) → (e.0 == n) ≡ b → (e.0 == n) ≡ false
        other true same = let bad : true ≡ false = sym (eq-eqb n e.0 (sym (eqb-true e.0 n same))) ∙ apart in cc
        other false same = same

    by : (b : Bool) → (n == e.0) ≡ b → list_any (λ k. k == n) (numbers_of rest) ≡ is_some (pages_in rest n)
        → ((e.0 == n) || list_any (λ k. k == n) (numbers_of rest)) ≡ is_some (cond (n == e.0) (Some e.1) (pages_in rest n))
    by true same again = ap (λ b. b || list_any (λ k. k == n) (numbers_of rest)) (flipped true same) ∙ sym (ap (λ b. is_some (cond b (Some e.1) (pages_in rest n))) same)
    by false same again = ap (λ b. b || list_any (λ k. k == n) (numbers_of rest)) (flipped false same) ∙ again ∙ sym (ap (λ b. is_some (cond b (Some e.1) (pages_in rest n))) same)

-- a set without pages
pub empty_set : (set : List (ℕ × List ℕ)) → pages_in set ≡ (λ n. None) → set ≡ []
empty_set [] none = refl
empty_set (e ∷ rest) none = let bad : Some e.1 ≡ None = sym (pages_here e.0 e.1 rest) ∙ ap (λ (p : ℕ → Option (List ℕ)). p e.0) none in cc
