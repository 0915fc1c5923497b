-- What a token is: how it is spelled, what may not follow it, and which faults stand in place of
-- one. SQL-92, 5.2 <token> and <separator>, and 5.3 <literal>. Our own choices: comments may hold
-- any byte and words only ASCII letters; a number has no fraction and no exponent; two strings side
-- by side are two tokens; the limits.
use Rattle.std.specs.Prelude.{◌≡◌, ◌≢◌, ℕ, ◌+◌, ◌-◌, ◌*◌, ◌<◌, ◌≤◌, Bool, true, false, ◌||◌, ◌&&◌, if◌then◌else◌, ◌==◌, List, [], ◌∷◌, ◌++◌, length, fold, map, codes}
use Rattle.std.specs.Char.{is_ascii_alphabetic, is_ascii_digit, to_ascii_uppercase}
use Rattle.std.specs.List.{list_all}
use Rattle.items.specs.Text.{is_character, is_text}
use Rattle.lexer.specs.declared.kinds.Kind.{Kind}
use Rattle.lexer.specs.declared.kinds.Kind.TheVariants as kind
use Rattle.lexer.specs.declared.kinds.Symbol.{Symbol}
use Rattle.lexer.specs.declared.kinds.Symbol.TheVariants as symbol
use Rattle.refusals.specs.declared.refusal.Refusal.{Refusal}
use Rattle.refusals.specs.declared.refusal.Refusal.TheVariants.{Invalid, Exceeded}
use Rattle.refusals.specs.declared.reason.Reason.TheVariants as reason
use Rattle.refusals.specs.declared.limit.Limit.TheVariants as limit
use Rattle.lexer.specs.Name.{is_name, longest_name}
use Rattle.lexer.specs.Number.{greatest_number}
use Rattle.lexer.specs.Words.{word_text}

abbrev pub Bytes : Type 0
Bytes = List ℕ

-- whether the first byte passes the test
abbrev pub begins_with : (ℕ → Bool) → Bytes → Bool
begins_with test [] = false
begins_with test (b ∷ bs) = test b

-- ---- white space and comments

-- space, tab, LF and CR
abbrev pub is_space : ℕ → Bool
is_space b = b == 32 || b == 9 || b == 10 || b == 13

abbrev pub begins_comment : Bytes → Bool
begins_comment [] = false
begins_comment (b ∷ bs) = b == 45 && begins_with (λ c. c == 45) bs

-- a line of a comment, without the LF at its end
abbrev pub is_line : Bytes → Bool
is_line = list_all (λ b. if b == 10 then false else true)

-- Before `rest` these bytes are white space and comments. A comment runs from -- to the next LF, or
-- to the end of the text.
pub data IsGap : Bytes → Bytes → Type 0 where
  nothing : (rest : Bytes) → IsGap [] rest
  space : (b : ℕ) (gap rest : Bytes) → is_space b ≡ true → IsGap gap rest → IsGap (b ∷ gap) rest
  comment : (line gap rest : Bytes) → is_line line ≡ true → IsGap gap rest → IsGap (45 ∷ 45 ∷ line ++ 10 ∷ gap) rest
  last_comment : (line : Bytes) → is_line line ≡ true → IsGap (45 ∷ 45 ∷ line) []

-- ---- spellings

-- letters of either case, digits and underscores
abbrev pub is_word_byte : ℕ → Bool
is_word_byte b = is_ascii_alphabetic b || is_ascii_digit b || b == 95

abbrev pub folded : Bytes → Bytes
folded = map to_ascii_uppercase

abbrev pub number_of : Bytes → ℕ
number_of = fold (λ n digit. 10 * n + (digit - 48)) 0

-- the greatest number of characters of a string
abbrev pub longest_text : ℕ
longest_text = 1000

-- at least one digit, and nothing else
abbrev pub is_digits : Bytes → Bool
is_digits bytes = begins_with is_ascii_digit bytes && list_all is_ascii_digit bytes

-- a character as it stands between quotes: a quote is doubled
abbrev pub quoted_character : ℕ → Bytes
quoted_character c = if c == 39 then 39 ∷ 39 ∷ [] else c ∷ []

abbrev pub quoted : Bytes → Bytes
quoted [] = []
quoted (c ∷ characters) = quoted_character c ++ quoted characters

abbrev pub symbol_text : Symbol → Bytes
symbol_text symbol.LeftParenthesis = codes "("
symbol_text symbol.RightParenthesis = codes ")"
symbol_text symbol.Comma = codes ","
symbol_text symbol.Period = codes "."
symbol_text symbol.Semicolon = codes ";"
symbol_text symbol.Asterisk = codes "*"
symbol_text symbol.Plus = codes "+"
symbol_text symbol.Minus = codes "-"
symbol_text symbol.Solidus = codes "/"
symbol_text symbol.Equal = codes "="
symbol_text symbol.NotEqual = codes "<>"
symbol_text symbol.Less = codes "<"
symbol_text symbol.Greater = codes ">"
symbol_text symbol.LessOrEqual = codes "<="
symbol_text symbol.GreaterOrEqual = codes ">="
symbol_text symbol.Concatenation = codes "||"

-- these bytes spell this token
abbrev pub Spells : Bytes → Kind → Type 0
Spells bytes (kind.Word word) = folded bytes ≡ word_text word
Spells bytes (kind.Name name) = (folded bytes ≡ name) × (is_name name ≡ true)
Spells bytes (kind.Number number) = (is_digits bytes ≡ true) × (number_of bytes ≤ greatest_number)
    × (number ≡ number_of bytes)
Spells bytes (kind.Text characters) = (bytes ≡ 39 ∷ quoted characters ++ 39 ∷ []) × (is_text characters ≡ true)
Spells bytes (kind.Symbol symbol) = bytes ≡ symbol_text symbol

-- no longer symbol stands there
abbrev pub IsLongest : Symbol → Bytes → Type 0
IsLongest symbol rest =
    (longer : Symbol) (more : Bytes) → symbol_text symbol ++ rest ≡ symbol_text longer ++ more
    → length (symbol_text longer) ≤ length (symbol_text symbol)

-- the token ends before these bytes: nothing there makes it longer, and after a number stands no
-- letter
abbrev pub EndsBefore : Bytes → Kind → Type 0
EndsBefore rest (kind.Word _) = begins_with is_word_byte rest ≡ false
EndsBefore rest (kind.Name _) = begins_with is_word_byte rest ≡ false
EndsBefore rest (kind.Number _) = begins_with is_word_byte rest ≡ false
EndsBefore rest (kind.Text _) = begins_with (λ b. b == 39) rest ≡ false
EndsBefore rest (kind.Symbol symbol) = IsLongest symbol rest

-- ---- faults

-- the longest front of bytes that pass the test, and what is left
pub record IsRun (test : ℕ → Bool) (bytes run rest : Bytes) : Type 0 where
  pub text : bytes ≡ run ++ rest
  pub inside : list_all test run ≡ true
  pub ends : begins_with test rest ≡ false

-- a byte that begins white space, a word, a number or a string
abbrev pub is_known : ℕ → Bool
is_known b = is_space b || is_ascii_alphabetic b || is_ascii_digit b || b == 39

-- In place of a token, the bytes begin with this fault.
pub data IsFault (bytes : Bytes) (refusal : Refusal) : Type 0 where
  -- X0003 `name`: a word of more characters than a name may have
  long_name : (word rest : Bytes) → IsRun is_word_byte bytes word rest → begins_with is_ascii_alphabetic bytes ≡ true
      → longest_name < length word → refusal ≡ Exceeded limit.Name → IsFault bytes refusal
  -- 42000 `number`: digits of too great a value
  great_number : (digits rest : Bytes) → IsRun is_ascii_digit bytes digits rest
      → begins_with is_ascii_digit bytes ≡ true
      → greatest_number < number_of digits → refusal ≡ Invalid reason.Number → IsFault bytes refusal
  -- 42000 `number`: digits with a letter or an underscore directly behind them
  number_before_word : (digits rest : Bytes) → IsRun is_ascii_digit bytes digits rest
      → begins_with is_ascii_digit bytes ≡ true
      → begins_with is_word_byte rest ≡ true → refusal ≡ Invalid reason.Number → IsFault bytes refusal
  -- 42000 `text`: a string that no quote ends
  open_string : (characters : Bytes) → bytes ≡ 39 ∷ quoted characters → is_text characters ≡ true
      → refusal ≡ Invalid reason.Text → IsFault bytes refusal
  -- X0003 `text`: a string in which one character too many stands
  long_string : (characters : Bytes) (c : ℕ) (rest : Bytes)
      → bytes ≡ 39 ∷ quoted characters ++ (quoted_character c ++ rest)
      → is_text characters ≡ true → length characters ≡ longest_text → is_character c ≡ true
      → refusal ≡ Exceeded limit.Text → IsFault bytes refusal
  -- 42000 `character`: a byte in a string that is no character
  wrong_in_string : (characters : Bytes) (b : ℕ) (rest : Bytes) → bytes ≡ 39 ∷ quoted characters ++ (b ∷ rest)
      → is_text characters ≡ true → is_character b ≡ false
      → refusal ≡ Invalid reason.Character → IsFault bytes refusal
  -- 42000 `character`: a byte with which nothing begins
  wrong_byte : (b : ℕ) (rest : Bytes) → bytes ≡ b ∷ rest → is_known b ≡ false
      → ((symbol : Symbol) (more : Bytes) → bytes ≢ symbol_text symbol ++ more)
      → refusal ≡ Invalid reason.Character → IsFault bytes refusal
