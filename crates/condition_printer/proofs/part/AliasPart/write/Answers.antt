use Rattle.condition_printer.proofs.Parts.{◌⨟◌, done}
use Rattle.condition_printer.proofs.part.AliasPart.write.Goals as goal

pub returns : goal.returns
returns c = done c.name.result (λ last. c.in_ok-word_if.ensures ⨟ last) c.name.ensures
