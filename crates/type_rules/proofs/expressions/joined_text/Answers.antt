use Rattle.type_rules.proofs.expressions.joined_text.Goals as goal

pub returns : goal.returns
returns c = λ x h. c.second.ensures _ (c.both.ensures _ _ c.only_concatenation.ensures (c.of_type.ensures x h))
