use Rattle.condition_printer.proofs.Parts.{◌⨟◌, done}
use Rattle.condition_printer.proofs.part.ColumnPart.write.Goals as goal

pub returns : goal.returns
returns c = done c.name.result (λ last. c.in_ok-qualifier.ensures ⨟ last) c.name.ensures
