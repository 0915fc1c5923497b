use Rattle.printer.proofs.Parts.{done, ◌⨟◌}
use Rattle.printer.proofs.writer.Writer.constraint_name.Goals as goal

pub returns-in_ok-word-in-Some : goal.returns-in_ok-word-in-Some
returns-in_ok-word-in-Some c = done c.name.result (λ last. rw c.in-Some.is (c.in_ok-word-in-Some.ensures ⨟ last)) c.name.ensures
