use Rattle.condition_printer.proofs.writer.Writer.word_if.Goals as goal

pub returns-then-is_written : goal.returns-then-is_written
returns-then-is_written c = rw c.if-is_written.true c.word.ensures
