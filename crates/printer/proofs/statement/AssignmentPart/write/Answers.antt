use Rattle.printer.proofs.Parts.{done, ◌⨟◌}
use Rattle.printer.proofs.statement.AssignmentPart.write.Goals as goal

pub returns : goal.returns
returns c = done c.write.result (λ last. c.in_ok-name.ensures ⨟ c.in_ok-symbol.ensures ⨟ last) c.write.ensures
