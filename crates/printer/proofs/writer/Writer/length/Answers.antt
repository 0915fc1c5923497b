use Rattle.printer.proofs.Parts.{done, ◌⨟◌, ◌⨠◌}
use Rattle.printer.proofs.writer.Writer.length.Goals as goal

pub returns : goal.returns
returns c = done c.symbol-2.result (λ last. c.in_ok-symbol.ensures ⨟ c.in_ok-number.ensures ⨠ last) c.symbol-2.ensures
