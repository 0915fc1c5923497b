use Rattle.condition_printer.proofs.Parts.{done, written}
use Rattle.condition_printer.proofs.part.QuantifierPart.write.Goals as goal

pub returns : goal.returns
returns c = done c.word.result (written c.quantifier_word.ensures) c.word.ensures
