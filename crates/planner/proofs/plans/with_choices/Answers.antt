use Rattle.std.proofs.Common.{◌∙◌, ap, sym, subst, List, map, false, Some}
use Rattle.rules.specs.Applied.{replayed}
use Rattle.rules.specs.declared.rule.Step.{Step}
use Rattle.planner.specs.Led.{Led, turned}
use Rattle.planner.specs.Looks.{LooksUp}
use Rattle.planner.proofs.Walked.{replayed-on, replays}
use Rattle.planner.specs.Joins.{JoinsByKeys}
use Rattle.planner.proofs.plans.with_choices.Goals as goal

pub returns-clause-replays : goal.returns-clause-replays
returns-clause-replays c = λ old middle first e h k.
    let outline = c.in_ok-more.field-0 in
    let led : Led false middle outline = rw c.in_ok-more.was at k in
    ap (λ (s : List Step). replayed s old) (c.in_ok-steps.ensures first (map turned outline.steps) h c.turned.ensures)
    ∙ replayed-on first (map turned outline.steps) old middle e
    ∙ replays false outline.steps middle outline.tree led.steps ∙ ap Some (sym c.plan_of.ensures)

pub returns-clause-looks : goal.returns-clause-looks
returns-clause-looks c = λ condition table k.
    let came : LooksUp condition table c.in_ok-more.field-0.tree = rw c.in_ok-more.was at k in
    subst (LooksUp condition table) (sym c.plan_of.ensures) came

pub returns-clause-joins : goal.returns-clause-joins
returns-clause-joins c = λ left right k.
    let came : JoinsByKeys left right c.in_ok-more.field-0.tree = rw c.in_ok-more.was at k in
    subst (JoinsByKeys left right) (sym c.plan_of.ensures) came
