-- Sets of pages, of which a part is put in its places.
use Rattle.std.proofs.Common.{◌≡◌, ◌≢◌, ◌∙◌, ℕ, zero, suc, ◌+◌, ◌-◌, ◌<◌, ◌≤◌, List, [], ◌∷◌, ◌++◌, length, take, drop, refl, sym, ap, inl, inr, arith}
use Rattle.std.specs.Prelude.{◌⊎◌, slice_range}
use Rattle.std.proofs.lemmas.Bool.{cases_eq}
use Rattle.std.proofs.lemmas.Bool.Decides.{nat_tests}
use Rattle.std.proofs.lemmas.List.{take-append-drop, drop-drop, drop_all}
use Rattle.journal.specs.Lists.{number_in, image_in, IsRising}
use Rattle.journal.specs.Parts.{shown}
use Rattle.journal.specs.Versions.{put, laid, HasPage}
use Rattle.journal.proofs.States.{laid_same}

pub laid_append : (a b : List (ℕ × List ℕ)) (p : ℕ → List ℕ) (n : ℕ) → laid (a ++ b) p n ≡ laid b (laid a p) n
laid_append [] b p n = laid_same b p (laid [] p) n (inl refl)
laid_append (e ∷ es) b p n =
    laid_append es b (put p e.0 e.1) n
    ∙ laid_same b (laid es (put p e.0 e.1)) (laid (e ∷ es) p) n (inl refl)

-- a part, and what stands behind it
pub parted : (set : List (ℕ × List ℕ)) (from end : ℕ) → from ≤ end → drop from set ≡ slice_range set from end ++ drop end set
parted set from end order =
    let back : from + (end - from) ≡ end = omega (arith, order) in
    sym (take-append-drop (end - from) (drop from set))
    ∙ ap (λ (l : List (ℕ × List ℕ)). slice_range set from end ++ l) (drop-drop (end - from) from set ∙ ap (λ (k : ℕ). drop k set) back)

-- a part in its places, before the rest
pub laid_more : (set : List (ℕ × List ℕ)) (from end : ℕ) (p q : ℕ → List ℕ) (n : ℕ) → from ≤ end → q n ≡ laid (slice_range set from end) p n
    → laid (drop end set) q n ≡ laid (drop from set) p n
laid_more set from end p q n order one =
    laid_same (drop end set) q (laid (slice_range set from end) p) n (inl one)
    ∙ sym (laid_append (slice_range set from end) (drop end set) p n)
    ∙ sym (ap (λ (l : List (ℕ × List ℕ)). laid l p n) (parted set from end order))

has_neither : (n : ℕ) (e : ℕ × List ℕ) (es : List (ℕ × List ℕ)) → n ≢ e.0 → (HasPage n es → ⊥) → HasPage n (e ∷ es) → ⊥
has_neither n e es other none (inl is) = other is
has_neither n e es other none (inr more) = none more

has_or : (n : ℕ) (set : List (ℕ × List ℕ)) → HasPage n set ⊎ (HasPage n set → ⊥)
has_or n [] = inr (λ none. none)
has_or n (e ∷ es) = by (cases_eq n e.0) (has_or n es)
  where
    by : (n ≡ e.0) ⊎ (n ≢ e.0) → HasPage n es ⊎ (HasPage n es → ⊥) → HasPage n (e ∷ es) ⊎ (HasPage n (e ∷ es) → ⊥)
    by (inl is) more = inl (inl is)
    by (inr other) (inl more) = inl (inr more)
    by (inr other) (inr none) = inr (has_neither n e es other none)

pub has_drop : (k n : ℕ) (set : List (ℕ × List ℕ)) → HasPage n (drop k set) → HasPage n set
has_drop zero n set has = has
has_drop (suc k) n [] has = has
has_drop (suc k) n (e ∷ es) has = inr (has_drop k n es has)

pub has_take : (k n : ℕ) (set : List (ℕ × List ℕ)) → HasPage n (take k set) → HasPage n set
has_take zero n set has = absurd has
has_take (suc k) n [] has = has
has_take (suc k) n (e ∷ es) (inl is) = inl is
has_take (suc k) n (e ∷ es) (inr more) = inr (has_take k n es more)

-- a part that may be torn in its places is still to be laid
pub laid_torn : (set : List (ℕ × List ℕ)) (from end : ℕ) (p q : ℕ → List ℕ) (n : ℕ) → ((HasPage n (slice_range set from end) → ⊥) → q n ≡ p n)
    → laid (drop from set) q n ≡ laid (drop from set) p n
laid_torn set from end p q n same = laid_same (drop from set) q p n (by (has_or n (slice_range set from end)))
  where
    by : HasPage n (slice_range set from end) ⊎ (HasPage n (slice_range set from end) → ⊥) → (q n ≡ p n) ⊎ HasPage n (drop from set)
    by (inl has) = inr (has_take (end - from) n (drop from set) has)
    by (inr none) = inl (same none)

pub has_part : (set : List (ℕ × List ℕ)) (from end n : ℕ) → HasPage n (slice_range set from end) → HasPage n set
has_part set from end n has = has_drop from n set (has_take (end - from) n (drop from set) has)

pub laid_none : (set : List (ℕ × List ℕ)) (p : ℕ → List ℕ) (n : ℕ) → laid (drop (length set) set) p n ≡ p n
laid_none set p n = ap (λ (l : List (ℕ × List ℕ)). laid l p n) (drop_all (length set) set (omega arith))

-- where a page stands in a set

pub has_index : (n : ℕ) (set : List (ℕ × List ℕ)) → HasPage n set → (k : ℕ) × (k < length set) × (number_in set k ≡ n)
has_index n [] has = absurd has
has_index n (e ∷ es) (inl is) = (0, omega arith, sym is)
has_index n (e ∷ es) (inr more) = let at = has_index n es more in (suc at.0, omega (arith, at.1), at.2)

rising_above : (e : ℕ × List ℕ) (es : List (ℕ × List ℕ)) (n : ℕ) → IsRising (e ∷ es) → HasPage n es → e.0 < n
rising_above e [] n rising none = absurd none
rising_above e (f ∷ fs) n rising (inl is) = let first = rising 0 (omega arith) in omega (arith, first, is)
rising_above e (f ∷ fs) n rising (inr more) =
    let first = rising 0 (omega arith) in
    let next = rising_above f fs n (λ i less. rising (suc i) (omega (arith, less))) more in omega (arith, first, next)

pub laid_beside : (es : List (ℕ × List ℕ)) (p : ℕ → List ℕ) (n : ℕ) → (HasPage n es → ⊥) → laid es p n ≡ p n
laid_beside [] p n none = refl
laid_beside (e ∷ es) p n none = laid_beside es (put p e.0 e.1) n (λ has. none (inr has)) ∙ off (cases_eq e.0 n)
  where
    off : (e.0 ≡ n) ⊎ (e.0 ≢ n) → put p e.0 e.1 n ≡ p n
    off (inl is) = absurd (none (inl (sym is)))
    off (inr other) = grind (arith, nat_tests, other)

-- the page of a set is laid, whatever stands under it
pub laid_at : (set : List (ℕ × List ℕ)) (i number : ℕ) (base : ℕ → List ℕ) → IsRising set → i < length set → number_in set i ≡ number
    → laid set base number ≡ shown number (image_in set i)
laid_at [] i number base rising less is = absurd (omega (arith, less))
laid_at (e ∷ es) zero number base rising less is =
    let it : put base e.0 e.1 number ≡ shown e.0 e.1 = grind (arith, nat_tests, is) in
    laid_beside es (put base e.0 e.1) number (λ has. let above = rising_above e es number rising has in absurd (omega (arith, above, is)))
    ∙ it ∙ ap (λ (k : ℕ). shown k e.1) is
laid_at (e ∷ es) (suc i) number base rising less is =
    laid_at es i number (put base e.0 e.1) (λ k low. rising (suc k) (omega (arith, low))) (omega (arith, less)) is
