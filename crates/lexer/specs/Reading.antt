-- What the functions that read one token compute: a step of the proof. What the crate promises
-- stands in `Tokens`.
use Rattle.std.specs.Prelude.{◌≡◌, ◌≢◌, ℕ, Bool, true, false, not, ◌&&◌, ◌||◌, if◌then◌else◌, ◌==◌, nat_lt, nat_le, [], ◌∷◌, ◌++◌, length, drop, take_while, Option, Some, None, option_and_then, Result, Ok, Err}
use Rattle.std.specs.Borrow.{Bor}
use Rattle.std.specs.Char.{is_ascii_alphabetic, is_ascii_digit}
use Rattle.items.specs.Text.{as_text, is_character, is_text}
use Rattle.lexer.specs.declared.kinds.Kind.{Kind}
use Rattle.lexer.specs.declared.kinds.Kind.TheVariants as kind
use Rattle.lexer.specs.declared.kinds.Symbol.{Symbol}
use Rattle.lexer.specs.declared.kinds.Symbol.TheVariants as symbol
use Rattle.refusals.specs.declared.refusal.Refusal.{Refusal}
use Rattle.refusals.specs.declared.refusal.Refusal.TheVariants.{Invalid, Exceeded, Memory}
use Rattle.refusals.specs.declared.reason.Reason.TheVariants as reason
use Rattle.refusals.specs.declared.limit.Limit.TheVariants as limit
use Rattle.lexer.specs.declared.words.Word.{Word}
use Rattle.lexer.specs.Name.{as_name}
use Rattle.lexer.specs.Number.{greatest_number}
use Rattle.lexer.specs.Token.{Bytes, begins_with, is_space, is_word_byte, folded, longest_text, number_of}
use Rattle.lexer.specs.Words.{reserved}

-- what a text begins with: nothing more, a token and what follows it, or a fault
pub data Step : Type 0 where
  Stop : Step
  Reads : Kind → Bytes → Step
  Fails : Refusal → Step

-- what a function that reads a token gives, memory aside
abbrev pub Gives : Result (Kind × Bor Bytes) Refusal → Step → Type 0
Gives (Ok read) step = step ≡ Reads read.0 read.1.now
Gives (Err refusal) step = refusal ≢ Memory → step ≡ Fails refusal

-- the same of a function that also tells the end of the text
abbrev pub GivesStep : Result (Option (Kind × Bor Bytes)) Refusal → Step → Type 0
GivesStep (Ok None) step = step ≡ Stop
GivesStep (Ok (Some read)) step = step ≡ Reads read.0 read.1.now
GivesStep (Err refusal) step = refusal ≢ Memory → step ≡ Fails refusal

-- ---- white space and comments

abbrev pub begins : ℕ → Bytes → Bool
begins c bs = begins_with (λ b. b == c) bs

-- outside a comment, a byte that is no white space ends the gap, unless a comment begins there
abbrev pub ends_gap : Bool → ℕ → Bytes → Bool
ends_gap in_comment b bs = not in_comment && not (is_space b) && not (b == 45 && begins 45 bs)

abbrev pub gap_from : Bool → Bytes → Bytes
gap_from in_comment [] = []
gap_from in_comment (b ∷ bs) =
    if ends_gap in_comment b bs then b ∷ bs else gap_from (if in_comment then not (b == 10) else b == 45) bs

unfoldable pub gap : Bytes → Bytes
gap = gap_from false

-- ---- words and names

abbrev pub name_of : Bytes → Option Bytes
name_of text = option_and_then as_name (as_text text)

abbrev pub name_step : Option Bytes → Bytes → Step
name_step (Some name) rest = Reads (kind.Name name) rest
name_step None rest = Fails (Exceeded limit.Name)

abbrev pub word_or_name : Option Word → Bytes → Bytes → Step
word_or_name (Some word) text rest = Reads (kind.Word word) rest
word_or_name None text rest = name_step (name_of text) rest

-- the run of such bytes at the front, and what follows it
abbrev pub run : (ℕ → Bool) → Bytes → Bytes
run p bs = take_while p bs

abbrev pub after_run : (ℕ → Bool) → Bytes → Bytes
after_run p bs = drop (length (take_while p bs)) bs

unfoldable pub word : ℕ → Bytes → Step
word b bs = let text = folded (b ∷ run is_word_byte bs) in word_or_name (reserved text) text (after_run is_word_byte bs)

-- ---- numbers

abbrev pub goes_on_as_word : Bytes → Bool
goes_on_as_word bs = begins_with (λ b. is_ascii_alphabetic b || b == 95) bs

unfoldable pub number : ℕ → Bytes → Step
number b bs =
    if nat_lt greatest_number (number_of (b ∷ run is_ascii_digit bs)) || goes_on_as_word (after_run is_ascii_digit bs) then Fails (Invalid reason.Number)
    else Reads (kind.Number (number_of (b ∷ run is_ascii_digit bs))) (after_run is_ascii_digit bs)

-- ---- strings, after the first quote. A quote is pending where the last byte was one that may be
-- doubled.

abbrev pub closed : Bytes → Bytes → Step
closed done rest = if is_text done then Reads (kind.Text done) rest else Fails (Exceeded limit.Text)

abbrev pub string_from : Bool → Bytes → Bytes → Step
string_from pending done [] = if pending then closed done [] else Fails (Invalid reason.Text)
string_from pending done (b ∷ bs) =
    if pending && not (b == 39) then closed done (b ∷ bs)
    else (if not pending && b == 39 then string_from true done bs
    else (if not (is_character b) then Fails (Invalid reason.Character)
    else (if nat_le longest_text (length done) then Fails (Exceeded limit.Text)
    else string_from false (done ++ b ∷ []) bs)))

-- ---- symbols: the longest one

abbrev pub symbol_alone : ℕ → Option Symbol
symbol_alone b =
    if b == 40 then Some symbol.LeftParenthesis else (if b == 41 then Some symbol.RightParenthesis
    else (if b == 42 then Some symbol.Asterisk else (if b == 43 then Some symbol.Plus
    else (if b == 44 then Some symbol.Comma else (if b == 45 then Some symbol.Minus
    else (if b == 46 then Some symbol.Period else (if b == 47 then Some symbol.Solidus
    else (if b == 59 then Some symbol.Semicolon else (if b == 60 then Some symbol.Less
    else (if b == 61 then Some symbol.Equal else (if b == 62 then Some symbol.Greater else None)))))))))))

abbrev pub symbol_of_two : ℕ → ℕ → Option Symbol
symbol_of_two b c =
    if b == 60 && c == 61 then Some symbol.LessOrEqual else (if b == 60 && c == 62 then Some symbol.NotEqual
    else (if b == 62 && c == 61 then Some symbol.GreaterOrEqual else (if b == 124 && c == 124 then Some symbol.Concatenation else None)))

abbrev pub symbol_or_fault : Option Symbol → Bytes → Step
symbol_or_fault (Some s) rest = Reads (kind.Symbol s) rest
symbol_or_fault None rest = Fails (Invalid reason.Character)

abbrev pub symbol_in_front : Option Symbol → ℕ → ℕ → Bytes → Step
symbol_in_front (Some s) b c bs = Reads (kind.Symbol s) bs
symbol_in_front None b c bs = symbol_or_fault (symbol_alone b) (c ∷ bs)

abbrev pub symbol_step : ℕ → Bytes → Step
symbol_step b [] = symbol_or_fault (symbol_alone b) []
symbol_step b (c ∷ bs) = symbol_in_front (symbol_of_two b c) b c bs

-- ---- any token

-- a text that begins neither with white space nor with a comment begins with this
abbrev pub next : Bytes → Step
next [] = Stop
next (b ∷ bs) =
    if is_ascii_alphabetic b then word b bs
    else (if is_ascii_digit b then number b bs
    else (if b == 39 then string_from false [] bs
    else symbol_step b bs))
