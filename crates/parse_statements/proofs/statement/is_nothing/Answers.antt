use Rattle.std.proofs.Common.{◌≡◌, ◌≤◌, false, List, [], ◌∷◌, length, refl, arith}
use Rattle.lexer.specs.declared.kinds.Token.{Token}
use Rattle.parse_terminals.specs.Readers.{kinds}
use Rattle.parse_statements.specs.ReadStatements.{is_nothing}
use Rattle.parse_statements.proofs.statement.is_nothing.Goals as goal

something : (ts : List Token) → 1 ≤ length ts → false ≡ is_nothing (kinds ts)
something [] h = absurd (omega arith)
something (t ∷ ts) h = refl

pub returns-in-len1-up : goal.returns-in-len1-up
returns-in-len1-up c = something c.args.tokens.now c.in-len1-up.len_at_least
