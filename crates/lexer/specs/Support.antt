-- Words whose forms are not built yet: a text that holds one is refused before the grammar is
-- looked at.
use Rattle.std.specs.Prelude.{List, [], ◌∷◌, Option, Some, None, if◌then◌else◌}
use Rattle.lexer.specs.declared.kinds.Kind.{Kind}
use Rattle.lexer.specs.declared.kinds.Kind.TheVariants as kind
use Rattle.lexer.specs.declared.kinds.Token.{Token}
use Rattle.lexer.specs.declared.words.Word.{Word}
use Rattle.lexer.specs.Words.{is_supported}

-- the token's word, if it is one that is not supported
abbrev pub unsupported_word : Kind → Option Word
unsupported_word (kind.Word w) = if is_supported w then None else Some w
unsupported_word _ = None

abbrev pub or_else : Option Word → Option Word → Option Word
or_else (Some w) other = Some w
or_else None other = other

-- the first such word
abbrev pub first_unsupported : List Token → Option Word
first_unsupported [] = None
first_unsupported (token ∷ tokens) = or_else (unsupported_word token.kind) (first_unsupported tokens)
