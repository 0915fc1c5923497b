use Rattle.printer.proofs.Parts.{done, ◌⨟◌}
use Rattle.printer.proofs.statement.ForeignKeyPart.write.Goals as goal

pub returns : goal.returns
returns c = done c.write.result (λ last. (c.in_ok-word.ensures ⨟ c.in_ok-word-2.ensures ⨟
    (rw c.as_slice.ensures at c.in_ok-list_in_parentheses.ensures)) ⨟ last) c.write.ensures
