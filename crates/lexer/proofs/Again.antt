-- A token, and a fault, is read as such at its place.
use Rattle.std.proofs.Common.{◌≡◌, ℕ, ◌<◌, Bool, true, false, ◌||◌, [], ◌∷◌, ◌++◌, length, eqb, refl, sym, ap, ◌∙◌, subst, arith}
use Rattle.std.specs.Char.{is_ascii_alphabetic, is_ascii_digit}
use Rattle.std.specs.List.{list_all}
use Rattle.std.proofs.lemmas.Bool.{and_parts, and_left, or_parts, eqb-true, false_from_ne_true}
use Rattle.std.proofs.lemmas.Bool.Decides.{nat_tests}
use Rattle.lexer.specs.declared.kinds.Kind.{Kind}
use Rattle.lexer.specs.declared.kinds.Kind.TheVariants as kind
use Rattle.lexer.specs.declared.kinds.Symbol.{Symbol}
use Rattle.lexer.specs.declared.kinds.Symbol.TheVariants as symbol
use Rattle.refusals.specs.declared.refusal.Refusal.{Refusal}
use Rattle.lexer.specs.Token.{Bytes, Spells, EndsBefore, IsFault, IsRun, long_name, great_number, number_before_word, open_string, long_string, wrong_in_string, wrong_byte, begins_with, is_space, is_word_byte, quoted, symbol_text}
use Rattle.lexer.specs.Reading.{Reads, Fails, next}
use Rattle.lexer.proofs.Skipping.{IsAtToken}
use Rattle.lexer.proofs.Printed.{is_identifier-is_name}
use Rattle.lexer.proofs.WordTable.{is_identifier-word_text}
use Rattle.lexer.proofs.WordAgain.{IsWord, IsWord-folded, next_word, next_name, next_long_name}
use Rattle.lexer.proofs.NumberAgain.{next_number, next_great_number, next_number_before_word}
use Rattle.lexer.proofs.StringAgain.{next_string, next_open_string, next_long_string, next_wrong_in_string}
use Rattle.lexer.proofs.SymbolAgain.{next_symbol, next_wrong_byte}

pub next_token : (k : Kind) (spelling rest : Bytes) → Spells spelling k → EndsBefore rest k → next (spelling ++ rest) ≡ Reads k rest
next_token (kind.Word w) spelling rest spells ends = next_word spelling rest w spells ends
next_token (kind.Name name) spelling rest spells ends = next_name spelling rest name spells.0 spells.1 ends
next_token (kind.Number n) spelling rest spells ends =
    let parts = and_parts (begins_with is_ascii_digit spelling) (list_all is_ascii_digit spelling) spells.0 in
    next_number spelling rest parts.0 parts.1 spells.1 ends ∙ ap (λ v. Reads (kind.Number v) rest) (sym spells.2)
next_token (kind.Text characters) spelling rest spells ends = ap (λ text. next (text ++ rest)) spells.0 ∙ next_string characters rest spells.1 ends
next_token (kind.Symbol s) spelling rest spells ends = ap (λ text. next (text ++ rest)) spells ∙ next_symbol s rest ends

-- ---- a token takes a byte, and the first one is no white space

-- the bytes begin with one that is neither white space nor a minus sign
letter_apart : (b : ℕ) → is_ascii_alphabetic b ≡ true → (is_space b ≡ false) × (eqb b 45 ≡ false)
letter_apart b h = (grind (arith, nat_tests), grind (arith, nat_tests))

digit_apart : (b : ℕ) → is_ascii_digit b ≡ true → (is_space b ≡ false) × (eqb b 45 ≡ false)
digit_apart b h = (grind (arith, nat_tests), grind (arith, nat_tests))

pub record IsTaking (spelling : Bytes) : Type 0 where
  pub some : 0 < length spelling
  pub no_space : (rest : Bytes) → begins_with is_space (spelling ++ rest) ≡ false

taking_word : (spelling : Bytes) → IsWord spelling → IsTaking spelling
taking_word spelling is_word = subst IsTaking (sym is_word.spelling_is)
    (record { some = omega arith; no_space = λ rest. (letter_apart is_word.first is_word.letter).0 })

taking_digits : (spelling : Bytes) → begins_with is_ascii_digit spelling ≡ true → IsTaking spelling
taking_digits [] h = cc
taking_digits (b ∷ bs) h = record { some = omega arith; no_space = λ rest. (digit_apart b h).0 }

taking_symbol : (s : Symbol) → IsTaking (symbol_text s)
taking_symbol symbol.Plus = record { some = omega arith; no_space = λ rest. refl }
taking_symbol _ = record { some = omega arith; no_space = λ rest. refl }

pub taking : (k : Kind) (spelling : Bytes) → Spells spelling k → IsTaking spelling
taking (kind.Word w) spelling spells = taking_word spelling (IsWord-folded spelling (rw spells (is_identifier-word_text w)))
taking (kind.Name name) spelling spells = taking_word spelling (IsWord-folded spelling (rw spells.0 (is_identifier-is_name name spells.1)))
taking (kind.Number n) spelling spells = taking_digits spelling (and_parts (begins_with is_ascii_digit spelling) (list_all is_ascii_digit spelling) spells.0).0
taking (kind.Text characters) spelling spells = subst IsTaking (sym spells.0) (record { some = omega arith; no_space = λ rest. refl })
taking (kind.Symbol s) spelling spells = subst IsTaking (sym spells) (taking_symbol s)

-- ---- faults

front_is_word : (bytes word rest : Bytes) → IsRun is_word_byte bytes word rest → begins_with is_ascii_alphabetic bytes ≡ true → 0 < length word → IsWord word
front_is_word bytes [] rest run letter some = absurd (omega arith)
front_is_word bytes (b ∷ bs) rest run letter some = record {
  first = b;
  run = bs;
  spelling_is = refl;
  letter = subst (λ text. begins_with is_ascii_alphabetic text ≡ true) run.text letter;
  inside = (and_parts (is_word_byte b) (list_all is_word_byte bs) run.inside).1;
}

front_is_digit : (bytes digits rest : Bytes) → IsRun is_ascii_digit bytes digits rest → begins_with is_ascii_digit bytes ≡ true → begins_with is_ascii_digit digits ≡ true
front_is_digit bytes [] rest run digit = let no : begins_with is_ascii_digit rest ≡ true = subst (λ text. begins_with is_ascii_digit text ≡ true) run.text digit in let ends = run.ends in cc
front_is_digit bytes (b ∷ bs) rest run digit = subst (λ text. begins_with is_ascii_digit text ≡ true) run.text digit

pub next_fault : (bytes : Bytes) (refusal : Refusal) → IsFault bytes refusal → next bytes ≡ Fails refusal
next_fault bytes refusal (long_name word rest run letter long e) =
    rw (e, run.text) (next_long_name word rest (front_is_word bytes word rest run letter (omega arith)) run.ends long)
next_fault bytes refusal (great_number digits rest run digit great e) =
    rw (e, run.text) (next_great_number digits rest (front_is_digit bytes digits rest run digit) run.inside run.ends great)
next_fault bytes refusal (number_before_word digits rest run digit word e) =
    rw (e, run.text) (next_number_before_word digits rest (front_is_digit bytes digits rest run digit) run.inside run.ends word)
next_fault bytes refusal (open_string characters text t e) = rw (e, text) (next_open_string characters t)
next_fault bytes refusal (long_string characters c rest text t size k e) = rw (e, text) (next_long_string characters c rest t size k)
next_fault bytes refusal (wrong_in_string characters b rest text t w e) = rw (e, text) (next_wrong_in_string characters b rest t w)
next_fault bytes refusal (wrong_byte b rest text unknown none e) =
    rw (e, text) (next_wrong_byte b rest unknown (λ s more h. none s more (text ∙ h)))

first_apart : (p : ℕ → Bool) (bytes : Bytes) → ((b : ℕ) → p b ≡ true → (is_space b ≡ false) × (eqb b 45 ≡ false)) → begins_with p bytes ≡ true → IsAtToken bytes
first_apart p [] apart h = record { no_space = refl; no_comment = refl }
first_apart p (b ∷ bs) apart h = record {
  no_space = (apart b h).0;
  no_comment = and_left (eqb b 45) (begins_with (λ c. eqb c 45) bs) (apart b h).1;
}

quote_apart : (bs : Bytes) → IsAtToken (39 ∷ bs)
quote_apart bs = record { no_space = refl; no_comment = refl }

pub at_fault : (bytes : Bytes) (refusal : Refusal) → IsFault bytes refusal → IsAtToken bytes
at_fault bytes refusal (long_name word rest run letter long e) = first_apart is_ascii_alphabetic bytes letter_apart letter
at_fault bytes refusal (great_number digits rest run digit great e) = first_apart is_ascii_digit bytes digit_apart digit
at_fault bytes refusal (number_before_word digits rest run digit word e) = first_apart is_ascii_digit bytes digit_apart digit
at_fault bytes refusal (open_string characters text t e) = rw text (quote_apart (quoted characters))
at_fault bytes refusal (long_string characters c rest text t size k e) = subst IsAtToken (sym text) (quote_apart _)
at_fault bytes refusal (wrong_in_string characters b rest text t w e) = subst IsAtToken (sym text) (quote_apart _)
at_fault bytes refusal (wrong_byte b rest text unknown none e) =
    let outer = or_parts (is_space b || is_ascii_alphabetic b || is_ascii_digit b) (eqb b 39) unknown in
    let middle = or_parts (is_space b || is_ascii_alphabetic b) (is_ascii_digit b) outer.0 in
    let inner = or_parts (is_space b) (is_ascii_alphabetic b) middle.0 in
    let no_minus : eqb b 45 ≡ false = false_from_ne_true (eqb b 45) (λ y. none symbol.Minus rest (text ∙ ap (λ c. c ∷ rest) (eqb-true b 45 y))) in
    subst IsAtToken (sym text) (record { no_space = inner.0; no_comment = and_left (eqb b 45) (begins_with (λ c. eqb c 45) rest) no_minus })
