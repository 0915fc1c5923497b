-- Texts of places.
use Rattle.std.proofs.Common.{◌≡◌, ◌≢◌, ℕ, ◌+◌, ◌^◌, ◌%◌, ◌<◌, List, [], ◌∷◌, ◌++◌, length, refl, sym, ap, ◌∙◌, arith}
use Rattle.std.specs.Fmt.{decimal}
use Rattle.std.specs.List.{AllByRecursion, flat_map}
use Rattle.std.proofs.lemmas.Fmt.{decimal_by_steps, decimal_nonempty}
use Rattle.std.proofs.lemmas.List.{length-append}
use Rattle.catalog_records.specs.Places.{next_place, places_text}
use Rattle.catalog_records.specs.Keepable.{ArePlaces}
use Rattle.catalog_records.specs.Cuts.{IsAtComma, IsCut}

pub all_append : {A : Type 0} (P : A → Type 0) (xs ys : List A) → AllByRecursion P xs → AllByRecursion P ys → AllByRecursion P (xs ++ ys)
all_append P [] ys h g = g
all_append P (x ∷ xs) ys h g = (h.0, all_append P xs ys h.1 g)

-- a number in decimal has no comma
abbrev NoComma : List ℕ → Type 0
NoComma codes = AllByRecursion (λ code. code ≢ 44) codes

digit_none : (n : ℕ) → n < 10 → NoComma ((48 + n) ∷ [])
digit_none n h = (λ e. omega (arith, e), tt)

pub decimal_none : (n : ℕ) → n < 2 ^ 64 → NoComma (decimal n)
decimal_none n small = decimal_by_steps (λ m ds. NoComma ds) digit_none (λ m ds h g. all_append _ ds ((48 + m % 10) ∷ []) g (λ e. omega (arith, e), tt)) n small

-- a text is cut in one way
pub cut_same : (xs ys digits rest : List ℕ) → NoComma xs → IsAtComma ys → NoComma digits → IsAtComma rest → digits ++ rest ≡ xs ++ ys → (digits ≡ xs) × (rest ≡ ys)
cut_same [] ys [] rest a b c d e = (refl, e)
cut_same [] [] (z ∷ digits) rest a b c d e = absurd (cc)
cut_same [] (y ∷ ys) (z ∷ digits) rest a b c d e = absurd (c.0 (first z (digits ++ rest) y ys e ∙ b))
  where
    first : (z : ℕ) (zs : List ℕ) (y : ℕ) (ys : List ℕ) → z ∷ zs ≡ y ∷ ys → z ≡ y
    first z zs y ys e = cc
cut_same (x ∷ xs) ys [] [] a b c d e = absurd (cc)
cut_same (x ∷ xs) ys [] (z ∷ rest) a b c d e = absurd (a.0 (sym (first z rest x (xs ++ ys) e) ∙ d))
  where
    first : (z : ℕ) (zs : List ℕ) (y : ℕ) (ys : List ℕ) → z ∷ zs ≡ y ∷ ys → z ≡ y
    first z zs y ys e = cc
cut_same (x ∷ xs) ys (z ∷ digits) rest a b c d e =
    let h : z ≡ x = cc in
    let t : digits ++ rest ≡ xs ++ ys = cc in
    let r = cut_same xs ys digits rest a.1 b c.1 d t in
    let p : digits ≡ xs = r.0 in
    ((cc), r.1)

-- before the first comma stands the first number
pub cut_first : (text digits after : List ℕ) (n : ℕ) (rest : List ℕ) → IsCut text digits after → n < 2 ^ 64 → IsAtComma rest → decimal n ++ rest ≡ text → (digits ≡ decimal n) × (after ≡ rest)
cut_first text digits after n rest cut small at e = cut_same (decimal n) rest digits after (decimal_none n small) at cut.none cut.comma (cut.whole ∙ sym e)

pub at_comma : (places : List ℕ) → IsAtComma (flat_map next_place places)
at_comma [] = tt
at_comma (place ∷ places) = refl

pub some_place : (place : ℕ) → next_place place ≡ [] → ⊥
some_place place e = cc

-- a comma is first, and behind it the first place
pub next_front : (comma : ℕ) (behind rest : List ℕ) (y : ℕ) (ys : List ℕ) → rest ≡ comma ∷ behind → next_place y ++ flat_map next_place ys ≡ rest
    → (comma ≡ 44) × (decimal y ++ flat_map next_place ys ≡ behind)
next_front comma behind rest y ys more e = apart (decimal y ++ flat_map next_place ys) (e ∙ more)
  where
    apart : (front : List ℕ) → 44 ∷ front ≡ comma ∷ behind → (comma ≡ 44) × (front ≡ behind)
    apart front h = ((cc), (cc))

-- of a text of places that is not empty
pub places_front : (text : List ℕ) (places : List ℕ) (P : Type 0) → (text ≡ [] → ⊥) → ArePlaces places → places_text places ≡ text
    → ((place : ℕ) (others : List ℕ) → place < 2 ^ 64 → ArePlaces others → decimal place ++ flat_map next_place others ≡ text → places ≡ place ∷ others → P) → P
places_front text [] P some small e use_it = absurd (some (sym e))
places_front text (place ∷ others) P some small e use_it = use_it place others small.0 small.1 e refl

-- an empty text has none
pub places_none : (text places : List ℕ) → text ≡ [] → ArePlaces places → places_text places ≡ text → [] ≡ places
places_none text [] none small e = refl
places_none text (place ∷ others) none small e =
    let long = decimal_nonempty place small.0 in
    let gone : length (decimal place ++ flat_map next_place others) ≡ 0 = ap length (e ∙ none) in
    absurd (omega (arith, long, length-append (decimal place) (flat_map next_place others), gone))

-- behind a comma a place was read
pub comma_first : (comma : ℕ) (behind rest : List ℕ) (place : ℕ) (others : List ℕ) → rest ≡ comma ∷ behind → comma ≡ 44 → decimal place ++ others ≡ behind → next_place place ++ others ≡ rest
comma_first comma behind rest place others more is e = rw (more, is) (ap (λ codes. 44 ∷ codes) e)
