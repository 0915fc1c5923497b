use Rattle.printer.proofs.statement.ItemsStoredSourcePart.write.Goals as goal

pub returns : goal.returns
returns c = rw c.as_slice.ensures at c.list_in_parentheses.ensures
