use Rattle.printer.proofs.Parts.{◌⨟◌, done}
use Rattle.printer.proofs.writer.Writer.named.Goals as goal

pub returns : goal.returns
returns c = done c.name.result (λ last. c.in_ok-word.ensures ⨟ last) c.name.ensures
