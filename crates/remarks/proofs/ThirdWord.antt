-- The third of some words, and the third of their texts.
use Rattle.std.proofs.Common.{◌≡◌, ◌↔◌, ◌∙◌, ◌<◌, ◌≤◌, sym, ap, refl, ℕ, List, Some, map, length, get_or}
use Rattle.std.specs.Prelude.{codes, slice_get}
use Rattle.std.specs.Option.{option_map}
use Rattle.std.proofs.lemmas.Option.{slice_get-map, slice_get_past, slice_get_read, same_Some, none-some}
use Rattle.remarks.specs.Words.{AsksWords}

-- the text of the third word is the third text
third_text : {A : Type 0} (text : A → List ℕ) (words : List A) (word : A)
    → 2 < length words → word ≡ get_or words 2 word → slice_get (map text words) 2 ≡ Some (text word)
third_text text words word within is = slice_get-map text words 2 ∙ ap (option_map text) (slice_get_read words (length words) 2 word refl within is)

-- a third word asks where its text is the option, and only there
pub asks_by : {A : Type 0} (text : A → List ℕ) (words : List A) (word : A)
    → 2 < length words → word ≡ get_or words 2 word → AsksWords (map text words) ↔ (text word ≡ codes "--verbose")
asks_by text words word within is = (
  λ asks. same_Some _ _ (sym (third_text text words word within is) ∙ asks),
  λ same. third_text text words word within is ∙ ap (λ (t : List ℕ). Some t) same,
)

-- where there is no third word, nothing is asked for
pub asks_not : {A : Type 0} (text : A → List ℕ) (words : List A)
    → length words ≤ 2 → AsksWords (map text words) → ⊥
asks_not text words past asks =
    none-some _ (sym (slice_get-map text words 2 ∙ ap (option_map text) (slice_get_past words 2 past)) ∙ asks)
