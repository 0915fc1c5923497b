-- The reserved words of which the language has no form.
use Rattle.std.specs.Prelude.{Bool, false, List, [], ◌∷◌}
use Rattle.std.specs.List.{list_any}
use Rattle.lexer.specs.Words.{is_word}
use Rattle.lexer.specs.declared.kinds.Kind.{Kind}
use Rattle.lexer.specs.declared.kinds.Kind.TheVariants as kind
use Rattle.lexer.specs.declared.words.Word.{Word}
use Rattle.lexer.specs.declared.words.Word.TheVariants as word

abbrev pub foreign_words : List Word
foreign_words =
    word.Alter ∷ word.Any ∷ word.Assertion ∷ word.Cascade ∷ word.Case ∷ word.Cast ∷ word.Char ∷ word.Coalesce
    ∷ word.Collate ∷ word.Corresponding ∷ word.Current ∷ word.Date ∷ word.Decimal ∷ word.Default ∷ word.Domain
    ∷ word.Escape ∷ word.Float ∷ word.Full ∷ word.Grant ∷ word.Interval ∷ word.Isolation ∷ word.Natural
    ∷ word.Nullif ∷ word.Numeric ∷ word.Real ∷ word.Restrict ∷ word.Revoke ∷ word.Right ∷ word.Savepoint
    ∷ word.Schema ∷ word.Scroll ∷ word.Smallint ∷ word.Some ∷ word.Time ∷ word.Timestamp ∷ word.Using
    ∷ word.View ∷ []

-- the word is one of them
abbrev pub is_foreign_word : Word → Bool
is_foreign_word w = list_any (λ foreign. is_word foreign w) foreign_words

-- the token is such a word
abbrev pub is_foreign : Kind → Bool
is_foreign (kind.Word w) = is_foreign_word w
is_foreign _ = false
