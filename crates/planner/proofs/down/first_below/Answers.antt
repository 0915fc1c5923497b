use Rattle.planner.specs.Led.{Led}
use Rattle.planner.proofs.down.first_below.Goals as goal

pub returns : goal.returns
returns c = λ old h.
    let outline = c.in_ok-steps.field-0 in
    let led : Led c.args.calm old outline = rw c.in_ok-steps.was at h in
    c.behind.ensures.led c.args.calm old outline.tree led.steps (c.child_sunk.ensures led.quiet)
