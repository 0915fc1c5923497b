use Rattle.type_rules.proofs.queries.scalar.Goals as goal

pub returns : goal.returns
returns c = λ x h. c.scalar_of.ensures _ (c.column_of_query.ensures x h)
