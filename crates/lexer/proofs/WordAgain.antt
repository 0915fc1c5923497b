-- A word, a name and too long a name are read as such.
use Rattle.std.proofs.Common.{◌≡◌, ℕ, ◌≤◌, ◌<◌, Bool, true, false, ◌&&◌, [], ◌∷◌, ◌++◌, length, drop, Some, None, cond, refl, sym, ap, ◌∙◌, inl, inr, arith}
use Rattle.std.specs.Char.{is_ascii_alphabetic, is_ascii_uppercase, to_ascii_uppercase}
use Rattle.std.specs.List.{list_all, take_while}
use Rattle.std.specs.Prelude.{nat_le, is_none}
use Rattle.std.proofs.lemmas.Bool.{cases_Bool, and_parts, and_from, and_left, leb-true, le-leb, lt-leb}
use Rattle.std.proofs.lemmas.Bool.Decides.{nat_tests}
use Rattle.std.proofs.lemmas.List.{length-map, drop_at}
use Rattle.std.proofs.lemmas.List.Folds.{list_all-map}
use Rattle.std.proofs.lemmas.List.Sums.{take_while-cons}
use Rattle.items.specs.Text.{is_character, is_text}
use Rattle.lexer.specs.declared.kinds.Kind.TheVariants as kind
use Rattle.refusals.specs.declared.refusal.Refusal.TheVariants.{Exceeded}
use Rattle.refusals.specs.declared.limit.Limit.TheVariants as limit
use Rattle.lexer.specs.declared.words.Word.{Word}
use Rattle.lexer.specs.declared.words.Word.TheVariants.{All}
use Rattle.lexer.specs.Name.{begins_name, is_identifier, is_name, is_name_character}
use Rattle.lexer.specs.Words.{reserved, word_text}
use Rattle.lexer.specs.Token.{Bytes, folded, is_word_byte, begins_with}
use Rattle.lexer.specs.Reading.{Reads, Fails, next, word, word_or_name}
use Rattle.lexer.proofs.Steps.{list_all-weaker}
use Rattle.lexer.proofs.WordTable.{word_text-reserved, reserved-word_text, is_identifier-word_text}

-- `take_while` takes the longest run
pub take_while-run : (p : ℕ → Bool) (run rest : Bytes) → list_all p run ≡ true → begins_with p rest ≡ false → take_while p (run ++ rest) ≡ run
take_while-run p [] [] h n = refl
take_while-run p [] (b ∷ bs) h n = take_while-cons p b bs ∙ ap (λ c. cond c (b ∷ take_while p bs) []) n
take_while-run p (b ∷ run) rest h n =
    let parts = and_parts (p b) (list_all p run) h in
    take_while-cons p b (run ++ rest) ∙ ap (λ c. cond c (b ∷ take_while p (run ++ rest)) []) parts.0 ∙ ap (λ more. b ∷ more) (take_while-run p run rest parts.1 n)

letter_upper : (b : ℕ) → is_ascii_uppercase (to_ascii_uppercase b) ≡ true → is_ascii_alphabetic b ≡ true
letter_upper b h = grind (arith, nat_tests)

byte_upper : (b : ℕ) → is_name_character (to_ascii_uppercase b) ≡ true → is_word_byte b ≡ true
byte_upper b h = grind (arith, nat_tests)

name_character : (b : ℕ) → is_name_character b ≡ true → is_character b ≡ true
name_character b h = grind (arith, nat_tests)

-- a letter and then word bytes
pub record IsWord (spelling : Bytes) : Type 0 where
  pub first : ℕ
  pub run : Bytes
  pub spelling_is : spelling ≡ first ∷ run
  pub letter : is_ascii_alphabetic first ≡ true
  pub inside : list_all is_word_byte run ≡ true

pub IsWord-folded : (spelling : Bytes) → is_identifier (folded spelling) ≡ true → IsWord spelling
IsWord-folded [] h = cc
IsWord-folded (b ∷ run) h =
    let parts = and_parts (is_ascii_uppercase (to_ascii_uppercase b)) (list_all is_name_character (folded (b ∷ run))) h in
    let all : list_all is_word_byte (b ∷ run) ≡ true =
    list_all-weaker (λ c. is_name_character (to_ascii_uppercase c)) is_word_byte byte_upper (b ∷ run) (sym (list_all-map is_name_character to_ascii_uppercase (b ∷ run)) ∙ parts.1) in
    record { first = b; run = run; spelling_is = refl; letter = letter_upper b parts.0; inside = (and_parts (is_word_byte b) (list_all is_word_byte run) all).1 }

-- what is read at a word
pub next-IsWord : (spelling rest : Bytes) → IsWord spelling → begins_with is_word_byte rest ≡ false
    → next (spelling ++ rest) ≡ word_or_name (reserved (folded spelling)) (folded spelling) rest
unfolding word
next-IsWord spelling rest is_word ends =
    let run : take_while is_word_byte (is_word.run ++ rest) ≡ is_word.run = take_while-run is_word_byte is_word.run rest is_word.inside ends in
    let left : drop (length is_word.run) (is_word.run ++ rest) ≡ rest = drop_at is_word.run rest (length is_word.run) refl in
    rw is_word.spelling_is (rw (is_word.letter, run, left) refl)

pub next_word : (spelling rest : Bytes) (w : Word) → folded spelling ≡ word_text w → begins_with is_word_byte rest ≡ false → next (spelling ++ rest) ≡ Reads (kind.Word w) rest
next_word spelling rest w e ends =
    let is_word : IsWord spelling = IsWord-folded spelling (rw e (is_identifier-word_text w)) in
    next-IsWord spelling rest is_word ends ∙ rw (e, reserved-word_text w) refl

unreserved : (name : Bytes) → is_none (reserved name) ≡ true → reserved name ≡ None
unreserved name h = elim (reserved name) as (λ w. is_none w ≡ true → w ≡ None) [ Some w ↦ λ e. cc | None ↦ λ e. refl ] h

pub next_name : (spelling rest name : Bytes) → folded spelling ≡ name → is_name name ≡ true → begins_with is_word_byte rest ≡ false → next (spelling ++ rest) ≡ Reads (kind.Name name) rest
next_name spelling rest name e h ends =
    let parts = and_parts (nat_le (length name) 64 && is_identifier name) (is_none (reserved name)) h in
    let shape = and_parts (nat_le (length name) 64) (is_identifier name) parts.0 in
    let short : length name ≤ 64 = leb-true (length name) 64 shape.0 in
    let characters = list_all-weaker is_name_character is_character name_character name (and_parts (begins_name name) (list_all is_name_character name) shape.1).1 in
    let text : is_text name ≡ true = and_from (nat_le (length name) 1000) (list_all is_character name) (le-leb (length name) 1000 (omega arith)) characters in
    let is_word : IsWord spelling = IsWord-folded spelling (rw e shape.1) in
    next-IsWord spelling rest is_word ends ∙ rw (e, unreserved name parts.1, text, h) refl

short-word_text : (w : Word) → nat_le (length (word_text w)) 64 ≡ true
unfolding word_text
short-word_text All = refl
short-word_text _ = refl

pub next_long_name : (spelling rest : Bytes) → IsWord spelling → begins_with is_word_byte rest ≡ false → 64 < length spelling → next (spelling ++ rest) ≡ Fails (Exceeded limit.Name)
next_long_name spelling rest is_word ends long =
    let name : Bytes = folded spelling in
    let size : length name ≡ length spelling = length-map spelling to_ascii_uppercase in
    let free : reserved name ≡ None = elim (reserved name) as (λ w. reserved name ≡ w → w ≡ None) [
      | Some w ↦ λ e.
          let text : word_text w ≡ name = word_text-reserved name w e in
          let same : length (word_text w) ≡ length name = ap length text in
          let short : length (word_text w) ≤ 64 = leb-true (length (word_text w)) 64 (short-word_text w) in
          absurd (omega arith)
      | None ↦ λ e. refl
    ] refl in
    let too_long : nat_le (length name) 64 ≡ false = lt-leb (length name) 64 (omega arith) in
    let no_name : is_name name ≡ false = and_left (nat_le (length name) 64 && is_identifier name) (is_none (reserved name)) (and_left (nat_le (length name) 64) (is_identifier name) too_long) in
    next-IsWord spelling rest is_word ends ∙ rw free (elim (cases_Bool (is_text name)) [ inl t ↦ rw (t, no_name) refl | inr t ↦ rw t refl ])
