use Rattle.std.proofs.Common.{◌≡◌, ap, false}
use Rattle.algebra.specs.declared.tree.Tree.{Tree}
use Rattle.rules.specs.Applied.{here}
use Rattle.rules.specs.Paths.{applied_at}
use Rattle.rule_steps.specs.Attempted.{attempt}
use Rattle.planner.specs.Led.{Led, path_of, with_step}
use Rattle.planner.specs.Looks.{after}
use Rattle.planner.specs.declared.outline.Outline.{Outline}
use Rattle.planner.proofs.Parts.{ok-is}
use Rattle.planner.proofs.Walked.{led-more, never-calm}
use Rattle.planner.specs.Joins.{Done}
use Rattle.planner.proofs.Shapes.{step-done}
use Rattle.planner.proofs.outline.stepped.Goals as goal

pub returns-clause-led : goal.returns-clause-led
returns-clause-led c = λ old h.
    let outline = c.in_ok-steps.field-0 in
    let led : Led false old outline = rw c.in_ok-steps.was at h in
    ok-is (Led false old) c.with_step.result
    (with_step outline.steps c.args.rule c.args.child
    (attempt (applied_at (here false c.args.rule) (path_of c.args.child) outline.tree) outline.tree))
    (c.with_step.ensures _ c.tried_at-tried.ensures)
    (led-more false old outline.steps outline.tree c.args.rule c.args.child (λ new e k. never-calm new) led)

pub returns-clause-tree : goal.returns-clause-tree
returns-clause-tree c = λ x h.
    let outline = c.in_ok-steps.field-0 in
    let came : outline.tree ≡ x = rw c.in_ok-steps.was at h in
    ok-is (λ (o : Outline). o.tree ≡ after false c.args.rule c.args.child x) c.with_step.result
    (with_step outline.steps c.args.rule c.args.child
    (attempt (applied_at (here false c.args.rule) (path_of c.args.child) outline.tree) outline.tree))
    (c.with_step.ensures _ c.tried_at-tried.ensures) (ap (λ (z : Tree). after false c.args.rule c.args.child z) came)

pub returns-clause-done : goal.returns-clause-done
returns-clause-done c = λ shape m none h.
    let outline = c.in_ok-steps.field-0 in
    let came : Done shape outline.tree = rw c.in_ok-steps.was at h in
    ok-is (λ (o : Outline). Done shape o.tree) c.with_step.result
    (with_step outline.steps c.args.rule c.args.child
    (attempt (applied_at (here false c.args.rule) (path_of c.args.child) outline.tree) outline.tree))
    (c.with_step.ensures _ c.tried_at-tried.ensures) (step-done shape c.args.rule c.args.child m none outline.tree came)
