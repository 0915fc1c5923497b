use Rattle.printer.proofs.writer.BoxedPart.write.Goals as goal

pub returns : goal.returns
returns g c = rw c.get.ensures at c.write.ensures
