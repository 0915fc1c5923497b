use Rattle.printer.proofs.Texts.{condition_tokens}
use Rattle.printer.proofs.printing.print_condition_tokens.Goals as goal

pub returns : goal.returns
returns c = rw c.into_kinds.ensures (condition_tokens _ _ (rw c.new-writer.ensures at c.in_ok-condition.ensures))
