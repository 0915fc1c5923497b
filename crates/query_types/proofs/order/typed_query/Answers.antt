use Rattle.scopes.proofs.Scopes.{frames-outermost}
use Rattle.query_types.proofs.order.typed_query.Goals as goal

pub returns : goal.returns
returns c = rw c.as_slice.ensures at c.ordered_by.ensures _ (rw frames-outermost at c.typed_query_expression-query.ensures)
