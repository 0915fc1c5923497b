use Rattle.condition_printer.proofs.writer.Writer.number.Goals as goal

pub returns : goal.returns
returns c = c.push.ensures
