use Rattle.condition_printer.proofs.writer.Writer.name.Goals as goal

pub returns : goal.returns
returns c = rw c.in_ok-name.ensures.copied at c.push.ensures
