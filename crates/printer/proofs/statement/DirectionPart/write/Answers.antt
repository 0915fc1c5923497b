use Rattle.printer.proofs.Parts.{done, written}
use Rattle.printer.proofs.statement.DirectionPart.write.Goals as goal

pub returns : goal.returns
returns c = done c.word.result (written c.direction_word.ensures) c.word.ensures
