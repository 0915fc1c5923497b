use Rattle.condition_printer.proofs.text.tokens_of.Goals as goal

pub returns : goal.returns
returns c = rw c.into_kinds.ensures ((rw c.new-writer.ensures at c.in_ok-condition.ensures).is)
