-- The texts of ROLLBACK. (ISO/IEC 9075:1992, 14.4)
use Rattle.std.specs.Prelude.{Bool, true, false, List, [], ◌∷◌}
use Rattle.lexer.specs.declared.words.Word.{Word}
use Rattle.lexer.specs.declared.words.Word.TheVariants.{Rollback, Work}
use Rattle.lexer.specs.Token.{Bytes}
use Rattle.ast.specs.declared.statement.Statement.TheVariants as asks
use Rattle.statement_definitions.specs.Reading.{IsRead}

-- the reserved words of ROLLBACK [WORK]
abbrev pub rollback_words : Bool → List Word
rollback_words false = Rollback ∷ []
rollback_words true = Rollback ∷ Work ∷ []

-- the text is ROLLBACK, which is never refused
abbrev pub IsRollback : Bytes → Type 0
IsRollback text = (work : Bool) × IsRead text (asks.Rollback work)
