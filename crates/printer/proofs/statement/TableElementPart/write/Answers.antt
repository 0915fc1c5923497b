use Rattle.printer.proofs.statement.TableElementPart.write.Goals as goal

pub returns-in-Column : goal.returns-in-Column
returns-in-Column c = rw c.in-Column.is c.write.ensures

pub returns-in-Constraint : goal.returns-in-Constraint
returns-in-Constraint c = rw c.in-Constraint.is c.write-in-Constraint.ensures
