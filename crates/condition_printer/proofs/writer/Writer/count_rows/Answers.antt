use Rattle.condition_printer.proofs.Parts.{◌⨟◌, done}
use Rattle.condition_printer.proofs.writer.Writer.count_rows.Goals as goal

pub returns : goal.returns
returns c = done c.symbol-3.result (λ last. c.in_ok-word.ensures ⨟ c.in_ok-symbol.ensures ⨟ c.in_ok-symbol-2.ensures ⨟ last) c.symbol-3.ensures
