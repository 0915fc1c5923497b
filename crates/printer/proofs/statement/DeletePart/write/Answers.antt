use Rattle.printer.proofs.Parts.{done, ◌⨟◌}
use Rattle.printer.proofs.statement.DeletePart.write.Goals as goal

pub returns : goal.returns
returns c = done c.filter_of.result (λ last. (c.in_ok-word.ensures ⨟ c.in_ok-word-2.ensures ⨟ c.in_ok-name.ensures) ⨟ last) c.filter_of.ensures
