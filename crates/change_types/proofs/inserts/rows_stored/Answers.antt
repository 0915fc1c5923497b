use Rattle.scopes.proofs.Scopes.{frames-outermost}
use Rattle.change_types.proofs.inserts.rows_stored.Goals as goal

pub returns-in-Values : goal.returns-in-Values
returns-in-Values c = λ x h. rw c.in-Values.is (rw c.as_slice.ensures at c.values_stored.ensures x h)

pub returns-in-Query : goal.returns-in-Query
returns-in-Query c = λ x h. rw c.in-Query.is (c.of_query.ensures _ (c.both.ensures _ _ h (rw frames-outermost at c.typed_query_expression-query.ensures)))
