use Rattle.printer.proofs.Parts.{done, ◌⨟◌}
use Rattle.printer.proofs.statement.CreateTablePart.write.Goals as goal

pub returns : goal.returns
returns c = done c.list_in_parentheses.result (λ last. (c.in_ok-word.ensures ⨟ c.in_ok-word-2.ensures ⨟ c.in_ok-name.ensures) ⨟ (rw c.as_slice.ensures at last)) c.list_in_parentheses.ensures
