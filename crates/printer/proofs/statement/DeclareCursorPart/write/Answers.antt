use Rattle.printer.proofs.Parts.{done, ◌⨟◌}
use Rattle.printer.proofs.statement.DeclareCursorPart.write.Goals as goal

pub returns : goal.returns
returns c = done c.write.result (λ last. (c.in_ok-word.ensures ⨟ c.in_ok-name.ensures) ⨟ c.in_ok-word-2.ensures ⨟ c.in_ok-word-3.ensures ⨟ last) c.write.ensures
