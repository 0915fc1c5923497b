use Rattle.query_types.proofs.arguments.typed_aggregate.Goals as goal

pub returns : goal.returns
returns c = λ k. rw c.is_distinct.ensures at (c.aggregate_of.ensures _ (c.argument_expression-argument.ensures k))
