-- Places are read back from their text.
use Rattle.std.proofs.Common.{◌≡◌, ℕ, ◌+◌, ◌*◌, ◌-◌, ◌/◌, ◌%◌, ◌^◌, ◌<◌, ◌≤◌, cond, List, [], ◌∷◌, ◌++◌, length, refl, ap, ◌∙◌, arith, ne_eqb, append_assoc}
use Rattle.std.specs.Fmt.{decimal}
use Rattle.std.specs.List.{flat_map}
use Rattle.std.proofs.lemmas.Fmt.{decimal_by_steps, decimal_nonempty}
use Rattle.std.proofs.lemmas.List.{length-append}
use Rattle.catalog_records.specs.Places.{next_place, places_text}
use Rattle.catalog_records.specs.Keepable.{ArePlaces}
use Rattle.stored_tables.specs.Places.{places_from, places_in}

-- one digit
digit : (n d : ℕ) (rest : List ℕ) → d < 10 → places_from n ((48 + d) ∷ rest) ≡ places_from (10 * n + d) rest
digit n d rest small = ap (λ b. cond b (n ∷ places_from 0 rest) (places_from (10 * n + (48 + d - 48)) rest)) (ne_eqb (48 + d) 44 (λ e. omega (arith, e)))
    ∙ ap (λ k. places_from k rest) (less d)
  where
    less : (d : ℕ) → 10 * n + (48 + d - 48) ≡ 10 * n + d
    less d = omega arith

-- all digits of a number
abbrev IsRead : ℕ → List ℕ → Type 0
IsRead n ds = (rest : List ℕ) → places_from 0 (ds ++ rest) ≡ places_from n rest

one_read : (n : ℕ) → n < 10 → IsRead n ((48 + n) ∷ [])
one_read n small rest = digit 0 n rest small ∙ ap (λ k. places_from k rest) (zeros n)
  where
    zeros : (n : ℕ) → 10 * 0 + n ≡ n
    zeros n = omega arith

more_read : (n : ℕ) (ds : List ℕ) → 10 ≤ n → IsRead (n / 10) ds → IsRead n (ds ++ ((48 + n % 10) ∷ []))
more_read n ds big again rest =
    ap (places_from 0) (append_assoc ds ((48 + n % 10) ∷ []) rest) ∙ again ((48 + n % 10) ∷ rest) ∙ digit (n / 10) (n % 10) rest (below n) ∙ ap (λ k. places_from k rest) (whole n)
  where
    below : (n : ℕ) → n % 10 < 10
    below n = omega arith

    whole : (n : ℕ) → 10 * (n / 10) + n % 10 ≡ n
    whole n = omega arith

decimal_read : (n : ℕ) → n < 2 ^ 64 → IsRead n (decimal n)
decimal_read n small = decimal_by_steps IsRead one_read more_read n small

places_behind : (place : ℕ) (places : List ℕ) → ArePlaces places → places_from place (flat_map next_place places) ≡ place ∷ places
places_behind place [] h = refl
places_behind place (next ∷ places) h = ap (λ ns. place ∷ ns) (decimal_read next h.0 (flat_map next_place places) ∙ places_behind next places h.1)

places_some : (text : List ℕ) → (text ≡ [] → ⊥) → places_in text ≡ places_from 0 text
places_some [] some = absurd (some refl)
places_some (c ∷ text) some = refl

pub places_back : (places : List ℕ) → ArePlaces places → places_in (places_text places) ≡ places
places_back [] h = refl
places_back (place ∷ places) h =
    places_some (decimal place ++ flat_map next_place places) (λ none. let some = decimal_nonempty place h.0 in
    let gone : length (decimal place ++ flat_map next_place places) ≡ 0 = ap length none in omega (arith, some, length-append (decimal place) (flat_map next_place places), gone))
    ∙ decimal_read place h.0 (flat_map next_place places) ∙ places_behind place places h.1
