use Rattle.std.proofs.Common.{refl}
use Rattle.rules.specs.declared.rule.Rule.TheVariants as by
use Rattle.planner.proofs.Walks.{below-unused, left-unused, on-unused, padding-unused, stays}
use Rattle.planner.proofs.down.sunk_here.Goals as goal

pub returns-clause-led : goal.returns-clause-led
returns-clause-led c = λ old led. c.sunk.ensures.led old refl (c.sunk-outline-3.ensures.led old refl
    (c.sunk-outline-2.ensures.led old refl (c.sunk-outline.ensures.led old refl (c.sides_parted-outline.ensures.led old led))))

pub returns-clause-still : goal.returns-clause-still
returns-clause-still c = λ table over. let tree = c.args.outline.tree in
    stays c.sunk.result c.args.calm by.OnIntoRightSide tree (on-unused table c.args.calm tree over)
    (c.sunk.ensures.tree tree (stays c.sunk-outline-3.result c.args.calm by.FilterLeftOfLeftJoin tree (left-unused table c.args.calm tree over)
    (c.sunk-outline-3.ensures.tree tree (stays c.sunk-outline-2.result c.args.calm by.LeftToInner tree (padding-unused table c.args.calm tree over)
    (c.sunk-outline-2.ensures.tree tree (stays c.sunk-outline.result c.args.calm by.FilterBelowProduct tree (below-unused table c.args.calm tree over)
    (c.sunk-outline.ensures.tree tree (c.sides_parted-outline.ensures.still table over))))))))

pub returns-clause-has : goal.returns-clause-has
returns-clause-has c = λ shape h. c.sunk.ensures.has shape refl (c.sunk-outline-3.ensures.has shape refl
    (c.sunk-outline-2.ensures.has shape refl (c.sunk-outline.ensures.has shape refl (c.sides_parted-outline.ensures.has shape h))))
