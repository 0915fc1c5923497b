use Rattle.printer.proofs.Parts.{done, token_before}
use Rattle.printer.proofs.statement.AccessModePart.write.Goals as goal

pub returns-in-ReadOnly : goal.returns-in-ReadOnly
returns-in-ReadOnly c = rw c.in-ReadOnly.is (done c.word-in-ReadOnly.result (token_before c.in_ok-word.ensures) c.word-in-ReadOnly.ensures)

pub returns-in-ReadWrite : goal.returns-in-ReadWrite
returns-in-ReadWrite c = rw c.in-ReadWrite.is (done c.word-in-ReadWrite.result (token_before c.in_ok-word.ensures) c.word-in-ReadWrite.ensures)
