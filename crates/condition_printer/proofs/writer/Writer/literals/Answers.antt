use Rattle.condition_printer.proofs.Parts.{◌⨟◌, done}
use Rattle.condition_printer.proofs.writer.Writer.literals.Goals as goal

pub returns : goal.returns
returns c = done c.symbol-2.result (λ last. c.in_ok-symbol.ensures ⨟ c.in_ok-list.ensures ⨟ last) c.symbol-2.ensures
