use Rattle.printer.proofs.Parts.{done, ◌⨟◌}
use Rattle.printer.proofs.Productions.{condition_inside}
use Rattle.printer.proofs.writer.Writer.filter_of.Goals as goal

pub returns-in_ok-word-in-Some : goal.returns-in_ok-word-in-Some
returns-in_ok-word-in-Some c = done c.condition.result (λ last. rw c.in-Some.is (c.in_ok-word-in-Some.ensures ⨟ condition_inside last)) c.condition.ensures
