use Rattle.printer.proofs.Parts.{done, ◌⨟◌}
use Rattle.printer.proofs.Productions.{query_inside}
use Rattle.printer.proofs.statement.OrderedQueryPart.write.Goals as goal

pub returns : goal.returns
returns c = done c.order.result (λ last. query_inside c.in_ok-query.ensures ⨟ (rw c.as_slice.ensures at last)) c.order.ensures
