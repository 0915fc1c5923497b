use Rattle.printer.proofs.Parts.{done, ◌⨟◌}
use Rattle.printer.proofs.statement.ColumnDefinitionPart.write.Goals as goal

pub returns : goal.returns
returns c = done c.all.result (λ last. c.in_ok-name.ensures ⨟ c.in_ok-write.ensures ⨟ (rw c.as_slice.ensures at last)) c.all.ensures
