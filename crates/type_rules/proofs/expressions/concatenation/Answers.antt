use Rattle.type_rules.proofs.expressions.concatenation.Goals as goal

pub returns : goal.returns
returns c = λ x y h k. c.concatenated.ensures _ (c.both.ensures _ _ (c.boxed-first.ensures _ (c.of_type.ensures x h)) k)
