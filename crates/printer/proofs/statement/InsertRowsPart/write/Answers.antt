use Rattle.printer.proofs.Parts.{done, ◌⨟◌}
use Rattle.printer.proofs.Productions.{query_inside}
use Rattle.printer.proofs.statement.InsertRowsPart.write.Goals as goal

pub returns-in_ok-word-in-Values : goal.returns-in_ok-word-in-Values
returns-in_ok-word-in-Values c = rw c.in-Values.is (done c.list.result (λ last. c.in_ok-word-in-Values.ensures ⨟ (rw c.as_slice.ensures at last)) c.list.ensures)

pub returns-in-Query : goal.returns-in-Query
returns-in-Query c = rw c.in-Query.is (done c.query.result (query_inside) c.query.ensures)
