-- What is read at a letter is a word, a name or too long a name.
use Rattle.std.proofs.Common.{◌≡◌, ℕ, ◌<◌, true, false, ◌&&◌, ◌∷◌, length, drop, Some, None, refl, sym, ◌∙◌, subst, inl, inr, arith}
use Rattle.std.specs.Char.{is_ascii_alphabetic, is_ascii_uppercase, to_ascii_uppercase}
use Rattle.std.specs.List.{list_all, take_while}
use Rattle.std.specs.Prelude.{nat_le, is_none}
use Rattle.std.proofs.lemmas.Bool.{cases_Bool, and_from, and_cases, and_left, and_right, leb-false}
use Rattle.std.proofs.lemmas.Bool.Decides.{nat_tests}
use Rattle.std.proofs.lemmas.List.{length-map}
use Rattle.std.proofs.lemmas.List.Folds.{list_all-map}
use Rattle.items.specs.Text.{is_character, is_text}
use Rattle.lexer.specs.Name.{is_identifier, is_name, is_name_character}
use Rattle.lexer.specs.Words.{reserved}
use Rattle.lexer.specs.Token.{Bytes, IsRun, long_name, folded, is_word_byte}
use Rattle.lexer.specs.Reading.{name_of, name_step, word, word_or_name}
use Rattle.lexer.proofs.Steps.{IsStep, IsRun-take_while, IsRun-cons, list_all-weaker}
use Rattle.lexer.proofs.WordTable.{word_text-reserved}

upper_letter : (b : ℕ) → is_ascii_alphabetic b ≡ true → is_ascii_uppercase (to_ascii_uppercase b) ≡ true
upper_letter b h = grind (arith, nat_tests)

upper_byte : (b : ℕ) → is_word_byte b ≡ true → is_name_character (to_ascii_uppercase b) ≡ true
upper_byte b h = grind (arith, nat_tests)

character_byte : (b : ℕ) → is_word_byte b ≡ true → is_character (to_ascii_uppercase b) ≡ true
character_byte b h = grind (arith, nat_tests)

word_byte-letter : (b : ℕ) → is_ascii_alphabetic b ≡ true → is_word_byte b ≡ true
word_byte-letter b h = grind (arith, nat_tests)

-- folded, such bytes are an identifier
pub is_identifier-folded : (b : ℕ) (run : Bytes) → is_ascii_alphabetic b ≡ true → list_all is_word_byte (b ∷ run) ≡ true → is_identifier (folded (b ∷ run)) ≡ true
is_identifier-folded b run letter inside =
    and_from (is_ascii_uppercase (to_ascii_uppercase b)) (list_all is_name_character (folded (b ∷ run))) (upper_letter b letter)
    (list_all-map is_name_character to_ascii_uppercase (b ∷ run) ∙ list_all-weaker is_word_byte (λ c. is_name_character (to_ascii_uppercase c)) upper_byte (b ∷ run) inside)

characters-folded : (run : Bytes) → list_all is_word_byte run ≡ true → list_all is_character (folded run) ≡ true
characters-folded run inside =
    list_all-map is_character to_ascii_uppercase run ∙ list_all-weaker is_word_byte (λ c. is_character (to_ascii_uppercase c)) character_byte run inside

-- an identifier that is neither a reserved word nor a name is too long
too_long : (text : Bytes) → list_all is_character text ≡ true → is_identifier text ≡ true → reserved text ≡ None → (is_text text && is_name text) ≡ false → 64 < length text
too_long text characters identifier free h =
    elim (and_cases (is_text text) (is_name text) h) [
      | inl t ↦
          let long : nat_le (length text) 1000 ≡ false = elim (and_cases (nat_le (length text) 1000) (list_all is_character text) t) [ inl l ↦ l | inr k ↦ cc ] in
          let above : 1000 < length text = leb-false (length text) 1000 long in
          omega arith
      | inr n ↦
          let parts = and_cases (nat_le (length text) 64 && is_identifier text) (is_none (reserved text)) n in
          let long : nat_le (length text) 64 ≡ false = elim parts [
            | inl l ↦ elim (and_cases (nat_le (length text) 64) (is_identifier text) l) [ inl k ↦ k | inr k ↦ cc ]
            | inr k ↦ let none : is_none (reserved text) ≡ true = rw free refl in cc
          ] in
          leb-false (length text) 64 long
    ]

name_sound : (b : ℕ) (bs run rest : Bytes) → is_ascii_alphabetic b ≡ true → IsRun is_word_byte (b ∷ bs) (b ∷ run) rest → reserved (folded (b ∷ run)) ≡ None
    → IsStep (b ∷ bs) (name_step (name_of (folded (b ∷ run))) rest)
name_sound b bs run rest letter is_run free =
    let text : Bytes = folded (b ∷ run) in
    let long : (is_text text && is_name text) ≡ false → 64 < length (b ∷ run) =
    λ h. subst (λ n. 64 < n) (length-map (b ∷ run) to_ascii_uppercase)
    (too_long text (characters-folded (b ∷ run) is_run.inside) (is_identifier-folded b run letter is_run.inside) free h) in
    elim (cases_Bool (is_text text)) [
      | inl t ↦ elim (cases_Bool (is_name text)) [
        | inl n ↦ rw (t, n) (record { spelling = b ∷ run; text = is_run.text; spells = (refl, n); ends = is_run.ends })
        | inr n ↦ rw (t, n) (long_name (b ∷ run) rest is_run letter (long (and_right (is_text text) (is_name text) n)) refl)
      ]
      | inr t ↦ rw t (long_name (b ∷ run) rest is_run letter (long (and_left (is_text text) (is_name text) t)) refl)
    ]

pub word_sound : (b : ℕ) (bs : Bytes) → is_ascii_alphabetic b ≡ true → IsStep (b ∷ bs) (word b bs)
unfolding word
word_sound b bs letter =
    let run : Bytes = take_while is_word_byte bs in
    let rest : Bytes = drop (length run) bs in
    let is_run : IsRun is_word_byte (b ∷ bs) (b ∷ run) rest = IsRun-cons is_word_byte b bs run rest (word_byte-letter b letter) (IsRun-take_while is_word_byte bs) in
    elim (reserved (folded (b ∷ run))) as (λ w. reserved (folded (b ∷ run)) ≡ w → IsStep (b ∷ bs) (word_or_name w (folded (b ∷ run)) rest)) [
      | Some w ↦ λ e. record { spelling = b ∷ run; text = is_run.text; spells = sym (word_text-reserved (folded (b ∷ run)) w e); ends = is_run.ends }
      | None ↦ λ e. name_sound b bs run rest letter is_run e
    ] refl
