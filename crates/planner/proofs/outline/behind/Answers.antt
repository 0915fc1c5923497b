use Rattle.std.proofs.Common.{sym, subst, List}
use Rattle.rules.specs.declared.rule.Step.{Step}
use Rattle.planner.specs.Led.{Led}
use Rattle.planner.proofs.Walked.{led-on}
use Rattle.planner.proofs.outline.behind.Goals as goal

pub returns-clause-led : goal.returns-clause-led
returns-clause-led c = λ calm old middle e h.
    let outline = c.in_ok-more.field-0 in
    let led : Led calm middle outline = rw c.in_ok-more.was at h in
    subst (λ (steps : List Step). Led calm old (record { steps = steps; tree = outline.tree })) (sym c.in_ok-append.ensures.ok)
    (led-on calm c.args.steps old middle outline e led)

pub returns-clause-tree : goal.returns-clause-tree
returns-clause-tree c = λ x h. rw c.in_ok-more.was at h
