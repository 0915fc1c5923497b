use Rattle.condition_printer.proofs.Parts.{done, written}
use Rattle.condition_printer.proofs.part.SignPart.write.Goals as goal

pub returns : goal.returns
returns c = done c.symbol.result (written c.sign_symbol.ensures) c.symbol.ensures
