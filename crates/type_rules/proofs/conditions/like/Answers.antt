use Rattle.type_rules.proofs.conditions.like.Goals as goal

pub returns : goal.returns
returns c = λ a b h k. c.like_of.ensures _ (c.both.ensures _ _ (c.boxed-x.ensures _ (c.of_type.ensures a h)) (c.boxed-pattern.ensures _ (c.of_type-2.ensures b k)))
