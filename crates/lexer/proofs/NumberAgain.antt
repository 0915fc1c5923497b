-- A number and the faults of a number are read as such.
use Rattle.std.proofs.Common.{◌≡◌, ℕ, ◌≤◌, ◌<◌, true, false, ◌||◌, [], ◌∷◌, ◌++◌, length, drop, refl, ◌∙◌, inl, inr, arith}
use Rattle.std.specs.Char.{is_ascii_alphabetic, is_ascii_digit}
use Rattle.std.specs.List.{list_all, take_while}
use Rattle.std.specs.Prelude.{nat_lt, if◌then◌else◌}
use Rattle.std.proofs.lemmas.Bool.{cases_Bool, and_parts, lt-ltb, le-ltb}
use Rattle.std.proofs.lemmas.Bool.Decides.{nat_tests}
use Rattle.std.proofs.lemmas.List.{drop_at}
use Rattle.lexer.specs.declared.kinds.Kind.TheVariants as kind
use Rattle.refusals.specs.declared.refusal.Refusal.TheVariants.{Invalid}
use Rattle.refusals.specs.declared.reason.Reason.TheVariants as reason
use Rattle.lexer.specs.Number.{greatest_number}
use Rattle.lexer.specs.Token.{Bytes, begins_with, is_word_byte, number_of}
use Rattle.lexer.specs.Reading.{Step, Reads, Fails, next, number, goes_on_as_word}
use Rattle.lexer.proofs.WordAgain.{take_while-run}

no_letter : (b : ℕ) → is_ascii_digit b ≡ true → is_ascii_alphabetic b ≡ false
no_letter b h = grind (arith, nat_tests)

-- what is read at digits
number_step : Bytes → Bytes → Step
number_step digits rest =
    if nat_lt 9223372036854775807 (number_of digits) || goes_on_as_word rest then Fails (Invalid reason.Number) else Reads (kind.Number (number_of digits)) rest

next-digits : (digits rest : Bytes) → begins_with is_ascii_digit digits ≡ true → list_all is_ascii_digit digits ≡ true → begins_with is_ascii_digit rest ≡ false
    → next (digits ++ rest) ≡ number_step digits rest
unfolding number number_step
next-digits [] rest first all ends = cc
next-digits (b ∷ run) rest first all ends =
    let inside = (and_parts (is_ascii_digit b) (list_all is_ascii_digit run) all).1 in
    let taken : take_while is_ascii_digit (run ++ rest) ≡ run = take_while-run is_ascii_digit run rest inside ends in
    let left : drop (length run) (run ++ rest) ≡ rest = drop_at run rest (length run) refl in
    rw (no_letter b first, first, taken, left) refl

no_digit : (rest : Bytes) → begins_with is_word_byte rest ≡ false → (begins_with is_ascii_digit rest ≡ false) × (goes_on_as_word rest ≡ false)
no_digit [] h = (refl, refl)
no_digit (b ∷ bs) h = (grind (arith, nat_tests), grind (arith, nat_tests))

goes_on : (rest : Bytes) → begins_with is_word_byte rest ≡ true → begins_with is_ascii_digit rest ≡ false → goes_on_as_word rest ≡ true
goes_on [] h d = h
goes_on (b ∷ bs) h d = grind (arith, nat_tests)

pub next_number : (digits rest : Bytes) → begins_with is_ascii_digit digits ≡ true → list_all is_ascii_digit digits ≡ true → number_of digits ≤ greatest_number
    → begins_with is_word_byte rest ≡ false → next (digits ++ rest) ≡ Reads (kind.Number (number_of digits)) rest
unfolding number_step
next_number digits rest first all small ends =
    let apart = no_digit rest ends in
    next-digits digits rest first all apart.0 ∙ rw (le-ltb 9223372036854775807 (number_of digits) small, apart.1) refl

pub next_great_number : (digits rest : Bytes) → begins_with is_ascii_digit digits ≡ true → list_all is_ascii_digit digits ≡ true → begins_with is_ascii_digit rest ≡ false
    → greatest_number < number_of digits → next (digits ++ rest) ≡ Fails (Invalid reason.Number)
unfolding number_step
next_great_number digits rest first all ends great =
    next-digits digits rest first all ends ∙ rw (lt-ltb 9223372036854775807 (number_of digits) great) refl

pub next_number_before_word : (digits rest : Bytes) → begins_with is_ascii_digit digits ≡ true → list_all is_ascii_digit digits ≡ true → begins_with is_ascii_digit rest ≡ false
    → begins_with is_word_byte rest ≡ true → next (digits ++ rest) ≡ Fails (Invalid reason.Number)
unfolding number_step
next_number_before_word digits rest first all ends word =
    next-digits digits rest first all ends ∙ elim (cases_Bool (nat_lt 9223372036854775807 (number_of digits))) [
      | inl g ↦ rw g refl
      | inr l ↦ rw (l, goes_on rest word ends) refl
    ]
