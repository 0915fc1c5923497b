use Rattle.condition_printer.proofs.writer.Writer.text.Goals as goal

pub returns : goal.returns
returns c = rw c.in_ok-text.ensures.copied at c.push.ensures
