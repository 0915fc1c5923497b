use Rattle.printer.proofs.Texts.{statement_text}
use Rattle.printer.proofs.printing.print.Goals as goal

pub returns : goal.returns
returns c = rw c.from_vec.ensures (statement_text _ _ _ c.in_ok-kinds.ensures
    (rw c.as_slice.ensures at c.in_ok-text.ensures.text) (rw c.as_slice.ensures at c.in_ok-text.ensures.again))
