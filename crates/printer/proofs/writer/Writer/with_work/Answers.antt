use Rattle.printer.proofs.Parts.{◌⨟◌, done}
use Rattle.printer.proofs.writer.Writer.with_work.Goals as goal

pub returns : goal.returns
returns c = done c.word_if.result (λ last. c.in_ok-word.ensures ⨟ last) c.word_if.ensures
