-- Texts that are nothing but given reserved words (our own choice: so that some statements are
-- known before any memory is taken).
use Rattle.std.specs.Prelude.{◌≡◌, ◌⊎◌, List, [], ◌∷◌, ◌++◌, map}
use Rattle.lexer.specs.declared.kinds.Kind.TheVariants as kind
use Rattle.lexer.specs.declared.kinds.Symbol.TheVariants as symbol
use Rattle.lexer.specs.declared.kinds.Token.{Token}
use Rattle.lexer.specs.declared.words.Word.{Word}
use Rattle.lexer.specs.Token.{Bytes}
use Rattle.lexer.specs.Tokens.{AreTokens, kinds_of}
use Rattle.lexer.specs.Reading.{Stop, Reads, next, gap}

-- the tokens of the text are these reserved words, and perhaps a `;` after them
pub record IsMadeOf (text : Bytes) (words : List Word) : Type 0 where
  pub tokens : List Token
  pub are : AreTokens text tokens
  pub kinds : (kinds_of tokens ≡ map kind.Word words)
      ⊎ (kinds_of tokens ≡ map kind.Word words ++ kind.Symbol symbol.Semicolon ∷ [])

-- ---- steps of the proof

-- behind white space and comments stand these words, and then `rest`
abbrev pub Follows : List Word → Bytes → Bytes → Type 0
Follows [] bytes rest = bytes ≡ rest
Follows (word ∷ words) bytes rest = (more : Bytes) × (next (gap bytes) ≡ Reads (kind.Word word) more)
    × Follows words more rest

-- nothing but white space and comments
abbrev pub IsNothing : Bytes → Type 0
IsNothing bytes = next (gap bytes) ≡ Stop

-- perhaps a `;`, and nothing else
abbrev pub IsEnd : Bytes → Type 0
IsEnd bytes = IsNothing bytes
    ⊎ ((more : Bytes) × (next (gap bytes) ≡ Reads (kind.Symbol symbol.Semicolon) more) × IsNothing more)
