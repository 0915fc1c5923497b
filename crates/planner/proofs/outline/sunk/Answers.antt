use Rattle.std.proofs.Common.{◌≡◌, ap, None, []}
use Rattle.algebra.specs.declared.tree.Tree.{Tree}
use Rattle.rules.specs.Applied.{here}
use Rattle.rules.specs.Paths.{applied_at}
use Rattle.rule_steps.specs.Attempted.{attempt}
use Rattle.planner.specs.Led.{Led, with_step}
use Rattle.planner.specs.Looks.{after}
use Rattle.planner.specs.declared.outline.Outline.{Outline}
use Rattle.planner.proofs.Parts.{ok-is}
use Rattle.planner.proofs.Quieting.{stays-calm}
use Rattle.planner.proofs.Walked.{led-more}
use Rattle.planner.specs.Joins.{Has}
use Rattle.planner.proofs.Shapes.{sunk-has}
use Rattle.planner.proofs.outline.sunk.Goals as goal

pub returns-clause-led : goal.returns-clause-led
returns-clause-led c = λ old m h.
    let outline = c.in_ok-steps.field-0 in
    let led : Led c.args.calm old outline = rw c.in_ok-steps.was at h in
    ok-is (Led c.args.calm old) c.with_step.result
    (with_step outline.steps c.args.rule None (attempt (applied_at (here c.args.calm c.args.rule) [] outline.tree) outline.tree))
    (c.with_step.ensures _ c.tried_at-tried.ensures)
    (led-more c.args.calm old outline.steps outline.tree c.args.rule None
    (λ new e k. stays-calm (record {
      condition = c.denials_are_certain.ensures.condition;
      expression = c.denials_are_certain.ensures.expression;
      plain = c.denials_are_certain.ensures.plain;
    }) c.args.calm c.args.rule m outline.tree new e k) led)

pub returns-clause-tree : goal.returns-clause-tree
returns-clause-tree c = λ x h.
    let outline = c.in_ok-steps.field-0 in
    let came : outline.tree ≡ x = rw c.in_ok-steps.was at h in
    ok-is (λ (o : Outline). o.tree ≡ after c.args.calm c.args.rule None x) c.with_step.result
    (with_step outline.steps c.args.rule None (attempt (applied_at (here c.args.calm c.args.rule) [] outline.tree) outline.tree))
    (c.with_step.ensures _ c.tried_at-tried.ensures) (ap (λ (z : Tree). after c.args.calm c.args.rule None z) came)

pub returns-clause-has : goal.returns-clause-has
returns-clause-has c = λ shape m h.
    let outline = c.in_ok-steps.field-0 in
    let came : Has shape outline.tree = rw c.in_ok-steps.was at h in
    ok-is (λ (o : Outline). Has shape o.tree) c.with_step.result
    (with_step outline.steps c.args.rule None (attempt (applied_at (here c.args.calm c.args.rule) [] outline.tree) outline.tree))
    (c.with_step.ensures _ c.tried_at-tried.ensures) (sunk-has shape c.args.calm c.args.rule m outline.tree came)
