use Rattle.condition_printer.proofs.Parts.{◌⨟◌, done}
use Rattle.condition_printer.proofs.part.LiteralPart.write.Goals as goal

pub returns-in_ok-maybe-in-Number : goal.returns-in_ok-maybe-in-Number
returns-in_ok-maybe-in-Number c = rw c.in-Number.is (done c.number.result (λ last. c.in_ok-maybe-in-Number.ensures ⨟ last) c.number.ensures)

pub returns-in-Text : goal.returns-in-Text
returns-in-Text c = rw c.in-Text.is c.text.ensures
