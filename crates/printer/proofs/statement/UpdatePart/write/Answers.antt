use Rattle.printer.proofs.Parts.{done, ◌⨟◌}
use Rattle.printer.proofs.statement.UpdatePart.write.Goals as goal

pub returns : goal.returns
returns c = done c.filter_of.result (λ last. (c.in_ok-word.ensures ⨟ c.in_ok-name.ensures) ⨟
    (c.in_ok-word-2.ensures ⨟ (rw c.as_slice.ensures at c.in_ok-list.ensures)) ⨟ last) c.filter_of.ensures
