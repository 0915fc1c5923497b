use Rattle.type_rules.proofs.expressions.summand.Goals as goal

pub returns : goal.returns
returns c = λ x h. c.both.ensures _ _ c.operator_in_sum.ensures (c.of_type.ensures x h)
