-- How often a commit is pinned, after a change of the list.
use Rattle.std.proofs.Common.{◌≡◌, ℕ, ◌<◌, ◌+◌, ◌-◌, ◌==◌, Bool, true, false, List, [], ◌∷◌, ◌++◌, ◌⊎◌, inl, inr, subst, Some, refl, zero, suc, sym, ap, ◌∙◌, if◌then◌else◌, arith, length, get_or, zero-add}
use Rattle.std.specs.Prelude.{slice_get}
use Rattle.std.specs.List.{remove}
use Rattle.std.proofs.Math.ListN.{set}
use Rattle.std.proofs.lemmas.List.Sums.{sum_by-set, sum_by-remove, sum_by-append}
use Rattle.std.proofs.lemmas.Bool.{eqb-true}
use Rattle.std.proofs.lemmas.Option.{slice_get_within}
use Rattle.pool.specs.declared.pins.Pin.{Pin}
use Rattle.std.proofs.lemmas.List.{map-set, set-get_or}
use Rattle.pool.specs.Images.{pinned_in}
use Rattle.pool.specs.Pins.{times, pins_at}

at_place : (pins : List Pin) (i : ℕ) (p : Pin) → slice_get pins i ≡ Some p → get_or pins i p ≡ p
at_place [] i p e = refl
at_place (q ∷ pins) zero p e = cc
at_place (q ∷ pins) (suc i) p e = at_place pins i p e

raise : (b : Bool) (s t k : ℕ) → s + (if b then k + 1 else 0) ≡ t + (if b then (k + 1) + 1 else 0) → s ≡ (if b then t + 1 else t)
raise true s t k e = omega arith
raise false s t k e = omega arith

pub raised : (pins : List Pin) (i number more : ℕ) → slice_get pins i ≡ Some (record { number = number; more = more }) → (c : ℕ)
    → pins_at (set pins i (record { number = number; more = more + 1 })) c ≡ (if number == c then pins_at pins c + 1 else pins_at pins c)
raised pins i number more is c =
    let old : Pin = record { number = number; more = more } in
    let new : Pin = record { number = number; more = more + 1 } in
    raise (number == c) (pins_at (set pins i new) c) (pins_at pins c) more
    (ap (λ p. pins_at (set pins i new) c + times c p) (sym (at_place pins i old is)) ∙ sum_by-set (times c) pins i new old (slice_get_within pins i old is))

lower : (b : Bool) (s t k : ℕ) → 0 < k → s + (if b then k + 1 else 0) ≡ t + (if b then (k - 1) + 1 else 0) → s ≡ (if b then t - 1 else t)
lower true s t k some e = omega arith
lower false s t k some e = omega arith

pub lowered : (pins : List Pin) (i number more : ℕ) → 0 < more → slice_get pins i ≡ Some (record { number = number; more = more }) → (c : ℕ)
    → pins_at (set pins i (record { number = number; more = more - 1 })) c ≡ (if number == c then pins_at pins c - 1 else pins_at pins c)
lowered pins i number more some is c =
    let old : Pin = record { number = number; more = more } in
    let new : Pin = record { number = number; more = more - 1 } in
    lower (number == c) (pins_at (set pins i new) c) (pins_at pins c) more some
    (ap (λ p. pins_at (set pins i new) c + times c p) (sym (at_place pins i old is)) ∙ sum_by-set (times c) pins i new old (slice_get_within pins i old is))

remove_one : (b : Bool) (s t k : ℕ) → k ≡ 0 → s + (if b then k + 1 else 0) ≡ t → s ≡ (if b then t - 1 else t)
remove_one true s t k none e = omega arith
remove_one false s t k none e = omega arith

pub removed : (pins : List Pin) (i number more : ℕ) → more ≡ 0 → slice_get pins i ≡ Some (record { number = number; more = more }) → (c : ℕ)
    → pins_at (remove pins i) c ≡ (if number == c then pins_at pins c - 1 else pins_at pins c)
removed pins i number more none is c =
    let old : Pin = record { number = number; more = more } in
    remove_one (number == c) (pins_at (remove pins i) c) (pins_at pins c) more none
    (ap (λ p. pins_at (remove pins i) c + times c p) (sym (at_place pins i old is)) ∙ sum_by-remove (times c) pins i old (slice_get_within pins i old is))

pub absent : (pins : List Pin) (number : ℕ) → pins_at pins number ≡ 0 → (c : ℕ) → pins_at pins c ≡ (if number == c then pins_at pins c - 1 else pins_at pins c)
absent pins number none c = by (number == c) refl
  where
    by : (b : Bool) → (number == c) ≡ b → pins_at pins c ≡ (if b then pins_at pins c - 1 else pins_at pins c)
    by true e = let zero_pins : pins_at pins c ≡ 0 = ap (pins_at pins) (sym (eqb-true number c e)) ∙ none in omega arith
    by false e = refl

add : (b : Bool) (s t u : ℕ) → u ≡ (if b then 0 + 1 else 0) → s ≡ t + u → s ≡ (if b then t + 1 else t)
add true s t u is e = omega arith
add false s t u is e = omega arith

pub added : (pins : List Pin) (number c : ℕ) → pins_at (pins ++ (record { number = number; more = 0 }) ∷ []) c ≡ (if number == c then pins_at pins c + 1 else pins_at pins c)
added pins number c = add (number == c) (pins_at (pins ++ (record { number = number; more = 0 }) ∷ []) c) (pins_at pins c)
    (pins_at ((record { number = number; more = 0 }) ∷ []) c) (zero-add (times c (record { number = number; more = 0 }))) (sum_by-append (times c) pins ((record { number = number; more = 0 }) ∷ []))

pub none_pinned : (p : Pin) (ps : List Pin) (c : ℕ) → 0 < pins_at (p ∷ ps) c → (p.number ≡ c) ⊎ (0 < pins_at ps c)
none_pinned p ps c some = by (p.number == c) refl
  where
    whole : pins_at (p ∷ ps) c ≡ pins_at (p ∷ []) c + pins_at ps c
    whole = sum_by-append (times c) (p ∷ []) ps

    by : (b : Bool) → (p.number == c) ≡ b → (p.number ≡ c) ⊎ (0 < pins_at ps c)
    by true e = inl (eqb-true p.number c e)
    by false e = inr (let front : pins_at (p ∷ []) c ≡ 0 = ap (λ t. 0 + (if t then p.more + 1 else 0)) e in omega (arith, whole, front, some))

choose : (P : ℕ → Type 0) (n c : ℕ) (Rest : Type 0) → P n → (Rest → P c) → (n ≡ c) ⊎ Rest → P c
choose P n c Rest here rest (inl e) = subst P e here
choose P n c Rest here rest (inr r) = rest r

-- what holds of the number of each pin, holds of each pinned commit
pub of_pinned : (P : ℕ → Type 0) (pins : List Pin) → ((k : ℕ) → k < length pins → (d : Pin) → P (get_or pins k d).number) → (c : ℕ) → 0 < pins_at pins c → P c
of_pinned P [] each c some = let none : pins_at [] c ≡ 0 = refl in absurd (omega (arith, none, some))
of_pinned P (p ∷ ps) each c some = choose P p.number c (0 < pins_at ps c) (each 0 (omega arith) p) (of_pinned P ps (λ k less d. each (suc k) (omega arith) d) c) (none_pinned p ps c some)

-- ---- the numbers of the pinned commits

number_at : (pins : List Pin) (i : ℕ) (p : Pin) (d : ℕ) → slice_get pins i ≡ Some p → get_or (pinned_in pins) i d ≡ p.number
number_at [] i p d e = cc
number_at (q ∷ pins) zero p d e = let same : q ≡ p = cc in ap (λ (x : Pin). x.number) same
number_at (q ∷ pins) (suc i) p d e = number_at pins i p d e

pub numbers_set : (pins : List Pin) (i : ℕ) (p q : Pin) → slice_get pins i ≡ Some p → q.number ≡ p.number → pinned_in (set pins i q) ≡ pinned_in pins
numbers_set pins i p q is same = map-set (λ (x : Pin). x.number) pins i q ∙ ap (set (pinned_in pins) i) (same ∙ sym (number_at pins i p 0 is)) ∙ set-get_or (pinned_in pins) i 0

pub numbers_removed : (pins : List Pin) (i : ℕ) → pinned_in (remove pins i) ≡ remove (pinned_in pins) i
numbers_removed [] zero = refl
numbers_removed [] (suc i) = refl
numbers_removed (p ∷ pins) zero = refl
numbers_removed (p ∷ pins) (suc i) = ap (λ l. p.number ∷ l) (numbers_removed pins i)
