-- Lists of pages at pins.
use Rattle.std.proofs.Common.{◌≡◌, ℕ, zero, suc, ◌<◌, ◌==◌, ◌||◌, true, List, [], ◌∷◌, ◌++◌, Some, None, refl, sym, ap, ◌∙◌, arith, length, get_or}
use Rattle.std.specs.Prelude.{Result, Ok, Err, OnOk, OnErr, slice_get}
use Rattle.std.proofs.Math.ListN.{set}
use Rattle.std.specs.List.{list_any}
use Rattle.std.proofs.lemmas.List.{get_or-set_same, get_or-set_other}
use Rattle.std.proofs.lemmas.Option.{slice_get_within}
use Rattle.pool.specs.declared.pins.Pin.{Pin}
use Rattle.pool.specs.Images.{pinned_in}
use Rattle.pool.specs.Ready.{Grows}
use Rattle.pool.proofs.SlotLemmas.{by_place}
use Rattle.pool.proofs.ImageLemmas.{any_push, no_pin}
use Rattle.pool.proofs.ImageCounts.{got}

pub none_within : {X : Type 0} (xs : List X) (i : ℕ) → i < length xs → slice_get xs i ≡ None → ⊥
none_within [] i less e = absurd (omega (arith, less))
none_within (x ∷ xs) zero less e = cc
none_within (x ∷ xs) (suc i) less e = none_within xs i (omega (arith, less)) e

-- one list grows
pub grows_set : (touched : List (List ℕ)) (place : ℕ) (pages new : List ℕ) → slice_get touched place ≡ Some pages → ((m : ℕ) → list_any (λ i. i == m) pages ≡ true → list_any (λ i. i == m) new ≡ true)
    → Grows touched (set touched place new)
grows_set touched place pages new is more k m = by_place (λ j. list_any (λ i. i == m) (get_or touched j []) ≡ true → list_any (λ i. i == m) (get_or (set touched place new) j []) ≡ true) place
    (λ h. ap (list_any (λ i. i == m)) (get_or-set_same touched place new [] (slice_get_within touched place pages is)) ∙ more m (ap (list_any (λ i. i == m)) (sym (got touched place pages [] is)) ∙ h))
    (λ j differs h. ap (list_any (λ i. i == m)) (get_or-set_other touched place j new [] differs) ∙ h) k

pub pushed_to : {T E : Type 0} (result : Result T E) (old new : List ℕ) (page : ℕ) → OnOk result (new ≡ old ++ page ∷ []) → OnErr result (new ≡ old) → (m : ℕ) → list_any (λ i. i == m) old ≡ true → list_any (λ i. i == m) new ≡ true
pushed_to (Ok x) old new page put same m h = ap (list_any (λ i. i == m)) put ∙ any_push (λ i. i == m) old page ∙ ap (λ b. b || (page == m)) h
pushed_to (Err e) old new page put same m h = ap (list_any (λ i. i == m)) same ∙ h

-- the number of a pin
pub number_of : (pins : List Pin) (k : ℕ) → get_or (pinned_in pins) k 0 ≡ (get_or pins k no_pin).number
number_of [] k = refl
number_of (p ∷ ps) zero = refl
number_of (p ∷ ps) (suc k) = number_of ps k
