use Rattle.type_rules.proofs.conditions.in_query.Goals as goal

pub returns : goal.returns
returns c = λ a q h k. c.query_of.ensures _ (c.both.ensures _ _ h k)
