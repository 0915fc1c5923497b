use Rattle.printer.proofs.Parts.{done}
use Rattle.printer.proofs.Productions.{expression_inside}
use Rattle.printer.proofs.statement.StoredSourcePart.write.Goals as goal

pub returns-in-Value : goal.returns-in-Value
returns-in-Value c = rw c.in-Value.is (done c.expression.result (expression_inside) c.expression.ensures)

pub returns-in-Null : goal.returns-in-Null
returns-in-Null c = rw c.in-Null.is c.word.ensures
