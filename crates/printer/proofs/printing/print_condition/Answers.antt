use Rattle.printer.proofs.Texts.{condition_text}
use Rattle.printer.proofs.printing.print_condition.Goals as goal

pub returns : goal.returns
returns c = rw c.from_vec.ensures (condition_text _ _ _ c.in_ok-kinds.ensures
    (rw c.as_slice.ensures at c.in_ok-text.ensures.text) (rw c.as_slice.ensures at c.in_ok-text.ensures.again))
