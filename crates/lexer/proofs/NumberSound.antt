-- What is read at a digit is a number, or a fault of a number.
use Rattle.std.proofs.Common.{◌≡◌, ℕ, true, false, [], ◌∷◌, length, drop, refl, inl, inr, arith}
use Rattle.std.specs.Char.{is_ascii_digit}
use Rattle.std.specs.List.{list_all, take_while}
use Rattle.std.specs.Prelude.{nat_lt}
use Rattle.std.proofs.lemmas.Bool.{cases_Bool, and_from, ltb-true, ltb-false}
use Rattle.std.proofs.lemmas.Bool.Decides.{nat_tests}
use Rattle.lexer.specs.Token.{Bytes, IsRun, great_number, number_before_word, begins_with, is_word_byte, number_of}
use Rattle.lexer.specs.Reading.{number, goes_on_as_word}
use Rattle.lexer.proofs.Steps.{IsStep, IsRun-take_while, IsRun-cons}

word_byte-going_on : (rest : Bytes) → goes_on_as_word rest ≡ true → begins_with is_word_byte rest ≡ true
word_byte-going_on [] h = h
word_byte-going_on (b ∷ bs) h = grind (arith, nat_tests)

no_word_byte : (rest : Bytes) → goes_on_as_word rest ≡ false → begins_with is_ascii_digit rest ≡ false → begins_with is_word_byte rest ≡ false
no_word_byte [] h d = refl
no_word_byte (b ∷ bs) h d = grind (arith, nat_tests)

pub number_sound : (b : ℕ) (bs : Bytes) → is_ascii_digit b ≡ true → IsStep (b ∷ bs) (number b bs)
unfolding number
number_sound b bs digit =
    let run : Bytes = take_while is_ascii_digit bs in
    let rest : Bytes = drop (length run) bs in
    let is_run : IsRun is_ascii_digit (b ∷ bs) (b ∷ run) rest = IsRun-cons is_ascii_digit b bs run rest digit (IsRun-take_while is_ascii_digit bs) in
    elim (cases_Bool (nat_lt 9223372036854775807 (number_of (b ∷ run)))) [
      | inl g ↦ rw g (great_number (b ∷ run) rest is_run digit (ltb-true 9223372036854775807 (number_of (b ∷ run)) g) refl)
      | inr l ↦ elim (cases_Bool (goes_on_as_word rest)) [
        | inl w ↦ rw (l, w) (number_before_word (b ∷ run) rest is_run digit (word_byte-going_on rest w) refl)
        | inr n ↦ rw (l, n) (record {
          spelling = b ∷ run;
          text = is_run.text;
          spells = (and_from (is_ascii_digit b) (list_all is_ascii_digit (b ∷ run)) digit is_run.inside, ltb-false 9223372036854775807 (number_of (b ∷ run)) l, refl);
          ends = no_word_byte rest n is_run.ends;
        })
      ]
    ]
