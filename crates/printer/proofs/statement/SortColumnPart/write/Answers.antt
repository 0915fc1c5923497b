use Rattle.printer.proofs.statement.SortColumnPart.write.Goals as goal

pub returns-in-Named : goal.returns-in-Named
returns-in-Named c = rw c.in-Named.is c.name.ensures

pub returns-in-Position : goal.returns-in-Position
returns-in-Position c = rw c.in-Position.is c.number.ensures
