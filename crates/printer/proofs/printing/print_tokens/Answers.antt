use Rattle.printer.proofs.Texts.{statement_tokens}
use Rattle.printer.proofs.printing.print_tokens.Goals as goal

pub returns : goal.returns
returns c = rw c.into_kinds.ensures (statement_tokens _ _ (rw c.new-writer.ensures at c.in_ok-write.ensures))
