use Rattle.printer.proofs.Parts.{done, written}
use Rattle.printer.proofs.part.SignPart.write.Goals as goal

pub returns : goal.returns
returns c = done c.symbol.result (written c.sign_symbol.ensures) c.symbol.ensures
