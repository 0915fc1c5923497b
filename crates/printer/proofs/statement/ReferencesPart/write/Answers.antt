use Rattle.printer.proofs.Parts.{done, ◌⨟◌}
use Rattle.printer.proofs.statement.ReferencesPart.write.Goals as goal

pub returns : goal.returns
returns c = done c.column_names.result (λ last. c.in_ok-named.ensures ⨟ (rw c.as_slice.ensures at last)) c.column_names.ensures
