use Rattle.printer.proofs.Parts.{done, ◌⨟◌}
use Rattle.printer.proofs.statement.SortKeyPart.write.Goals as goal

pub returns : goal.returns
returns c = done c.maybe.result (λ last. c.in_ok-write.ensures ⨟ last) c.maybe.ensures
