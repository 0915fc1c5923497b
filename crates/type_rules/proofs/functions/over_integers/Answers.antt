use Rattle.type_rules.proofs.functions.over_integers.Goals as goal

pub returns : goal.returns
returns c = λ x h. c.over_integer.ensures _ (c.of_type.ensures x h)
