-- The table of reserved words: a word has one text, and a text one word.
use Rattle.std.proofs.Common.{◌≡◌, ℕ, Bool, true, List, [], ◌∷◌, Some, refl, ◌∙◌, subst, inl, inr}
use Rattle.std.specs.List.{list_all}
use Rattle.std.specs.Str.{bytes_eq}
use Rattle.std.proofs.lemmas.Bool.{cases_Bool, and_parts}
use Rattle.std.proofs.lemmas.Slice.Eq.{bytes_eq-Decides}
use Rattle.lexer.specs.declared.words.Word.{Word}
use Rattle.lexer.specs.declared.words.Word.TheVariants.{All}
use Rattle.lexer.specs.Name.{is_identifier}
use Rattle.lexer.specs.Words.{Entry, reserved, vocabulary, word_text, word_with}

abbrev agrees : Entry → Bool
agrees entry = bytes_eq (word_text entry.1) entry.0

-- each line's text is the text of its word
lines_agree : list_all agrees vocabulary ≡ true
unfolding word_text
lines_agree = refl

word_with_found : (entries : List Entry) (text : List ℕ) (w : Word) → word_with entries text ≡ Some w
    → list_all agrees entries ≡ true → word_text w ≡ text
word_with_found [] text w h agree = cc
word_with_found (entry ∷ entries) text w h agree =
    let parts = and_parts (bytes_eq (word_text entry.1) entry.0) (list_all agrees entries) agree in
    elim (cases_Bool (bytes_eq entry.0 text)) [
      | inl y ↦
          let same : Some entry.1 ≡ Some w = rw y at h in
          let own : entry.1 ≡ w = cc in
          subst (λ v. word_text v ≡ text) own ((bytes_eq-Decides (word_text entry.1) entry.0).0 parts.0 ∙ (bytes_eq-Decides entry.0 text).0 y)
      | inr n ↦ word_with_found entries text w (rw n at h) parts.1
    ]

pub word_text-reserved : (text : List ℕ) (word : Word) → reserved text ≡ Some word → word_text word ≡ text
unfolding reserved
word_text-reserved text word h = word_with_found vocabulary text word h lines_agree

pub reserved-word_text : (word : Word) → reserved (word_text word) ≡ Some word
unfolding reserved word_text
reserved-word_text All = refl
reserved-word_text _ = refl

pub is_identifier-word_text : (word : Word) → is_identifier (word_text word) ≡ true
unfolding word_text
is_identifier-word_text All = refl
is_identifier-word_text _ = refl
