-- The text of a list of tokens: each in its plain spelling, with one space between two.
use Rattle.std.specs.Prelude.{◌≡◌, ◌≤◌, true, List, [], ◌∷◌, ◌++◌}
use Rattle.std.specs.Fmt.{decimal}
use Rattle.items.specs.Text.{is_text}
use Rattle.lexer.specs.declared.kinds.Kind.{Kind}
use Rattle.lexer.specs.declared.kinds.Kind.TheVariants as kind
use Rattle.lexer.specs.declared.kinds.Token.{Token}
use Rattle.lexer.specs.Name.{is_name}
use Rattle.lexer.specs.Number.{greatest_number}
use Rattle.lexer.specs.Words.{word_text}
use Rattle.lexer.specs.Token.{Bytes, quoted, symbol_text}
use Rattle.lexer.specs.Tokens.{AreTokens, kinds_of}

-- words and names in upper case, numbers in decimal, strings in quotes with their quotes doubled
abbrev pub kind_text : Kind → Bytes
kind_text (kind.Word w) = word_text w
kind_text (kind.Name name) = name
kind_text (kind.Number number) = decimal number
kind_text (kind.Text characters) = 39 ∷ quoted characters ++ 39 ∷ []
kind_text (kind.Symbol symbol) = symbol_text symbol

-- a space before each
abbrev pub spaced_text : List Kind → Bytes
spaced_text [] = []
spaced_text (k ∷ kinds) = 32 ∷ kind_text k ++ spaced_text kinds

-- a space between each two
abbrev pub text_of : List Kind → Bytes
text_of [] = []
text_of (k ∷ kinds) = kind_text k ++ spaced_text kinds

-- what a token can be: its name is a name, its number within the limits, its string a string
abbrev pub IsKind : Kind → Type 0
IsKind (kind.Name name) = is_name name ≡ true
IsKind (kind.Number number) = number ≤ greatest_number
IsKind (kind.Text characters) = is_text characters ≡ true
IsKind _ = Unit {0}

abbrev pub AreKinds : List Kind → Type 0
AreKinds [] = Unit {0}
AreKinds (k ∷ kinds) = IsKind k × AreKinds kinds

-- the text has these tokens, wherever they stand
pub record HasKinds (text : Bytes) (kinds : List Kind) : Type 0 where
  pub tokens : List Token
  pub are : AreTokens text tokens
  pub kinds_are : kinds_of tokens ≡ kinds
