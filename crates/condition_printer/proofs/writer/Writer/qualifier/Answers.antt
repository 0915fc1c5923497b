use Rattle.condition_printer.proofs.Parts.{◌⨟◌, done}
use Rattle.condition_printer.proofs.writer.Writer.qualifier.Goals as goal

pub returns-in_ok-name-in-Some : goal.returns-in_ok-name-in-Some
returns-in_ok-name-in-Some c = rw c.in-Some.is (done c.symbol.result (λ last. c.in_ok-name-in-Some.ensures ⨟ last) c.symbol.ensures)
