use Rattle.printer.proofs.Parts.{done, ◌⨟◌, ◌⨠◌}
use Rattle.printer.proofs.Productions.{condition_inside}
use Rattle.printer.proofs.writer.Writer.check.Goals as goal

pub returns : goal.returns
returns c = done c.symbol-2.result (λ last. c.in_ok-word.ensures ⨟ c.in_ok-symbol.ensures ⨟ condition_inside c.in_ok-condition.ensures ⨠ last) c.symbol-2.ensures
