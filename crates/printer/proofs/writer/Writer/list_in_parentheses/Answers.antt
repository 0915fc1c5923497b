use Rattle.printer.proofs.Parts.{◌⨟◌, ◌⨠◌, done}
use Rattle.printer.proofs.writer.Writer.list_in_parentheses.Goals as goal

pub returns : goal.returns
returns g c = done c.symbol-2.result (λ last. c.in_ok-symbol.ensures ⨟ c.in_ok-list.ensures ⨠ last) c.symbol-2.ensures
