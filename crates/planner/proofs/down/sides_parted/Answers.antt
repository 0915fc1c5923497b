use Rattle.std.proofs.Common.{◌∙◌, refl, sym}
use Rattle.std.proofs.lemmas.Bool.{false≢true}
use Rattle.planner.proofs.OneSided.{scan-sides, shape-sides}
use Rattle.planner.proofs.down.sides_parted.Goals as goal

pub returns-then-parts_well-clause-led : goal.returns-then-parts_well-clause-led
returns-then-parts_well-clause-led c = λ old led. c.first_below.ensures old (c.sunk.ensures.led old refl led)

pub returns-then-parts_well-clause-still : goal.returns-then-parts_well-clause-still
returns-then-parts_well-clause-still c = λ table over. absurd (false≢true
    (sym (c.parts_well.ensures (scan-sides table c.args.outline.tree over)) ∙ c.if-parts_well.true))

pub returns-then-parts_well-clause-has : goal.returns-then-parts_well-clause-has
returns-then-parts_well-clause-has c = λ shape h. absurd (false≢true
    (sym (c.parts_well.ensures (shape-sides shape c.args.outline.tree h)) ∙ c.if-parts_well.true))

pub returns-else-parts_well-clause-led : goal.returns-else-parts_well-clause-led
returns-else-parts_well-clause-led c = λ old led. led

pub returns-else-parts_well-clause-still : goal.returns-else-parts_well-clause-still
returns-else-parts_well-clause-still c = λ table over. refl

pub returns-else-parts_well-clause-has : goal.returns-else-parts_well-clause-has
returns-else-parts_well-clause-has c = λ shape h. h
