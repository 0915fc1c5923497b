-- What is read at the place of a token is a token, or a fault.
use Rattle.std.proofs.Common.{false, ◌||◌, [], ◌∷◌, eqb, refl, subst, sym, inl, inr}
use Rattle.std.specs.Char.{is_ascii_alphabetic, is_ascii_digit}
use Rattle.std.proofs.lemmas.Bool.{cases_Bool, eqb-true, or_from}
use Rattle.lexer.specs.Token.{Bytes, is_space}
use Rattle.lexer.specs.Reading.{next, string_from}
use Rattle.lexer.proofs.Skipping.{IsAtToken}
use Rattle.lexer.proofs.Steps.{IsStep}
use Rattle.lexer.proofs.WordSound.{word_sound}
use Rattle.lexer.proofs.NumberSound.{number_sound}
use Rattle.lexer.proofs.StringSound.{string_sound}
use Rattle.lexer.proofs.SymbolSound.{symbol_sound}

pub next_sound : (here : Bytes) → IsAtToken here → IsStep here (next here)
next_sound [] at_token = refl
next_sound (b ∷ bs) at_token = elim (cases_Bool (is_ascii_alphabetic b)) [
  | inl y ↦ rw y (word_sound b bs y)
  | inr letter ↦ elim (cases_Bool (is_ascii_digit b)) [
    | inl y ↦ rw (letter, y) (number_sound b bs y)
    | inr digit ↦ elim (cases_Bool (eqb b 39)) [
      | inl y ↦ rw (letter, digit, y) (subst (λ c. IsStep (c ∷ bs) (string_from false [] bs)) (sym (eqb-true b 39 y)) (string_sound bs))
      | inr quote ↦ rw (letter, digit, quote) (symbol_sound b bs
          (or_from (is_space b || is_ascii_alphabetic b || is_ascii_digit b) (eqb b 39)
          (or_from (is_space b || is_ascii_alphabetic b) (is_ascii_digit b) (or_from (is_space b) (is_ascii_alphabetic b) at_token.no_space letter) digit) quote))
    ]
  ]
]
