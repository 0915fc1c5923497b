use Rattle.std.proofs.Common.{◌≡◌, ◌∙◌, map}
use Rattle.planner.specs.Led.{Led, in_part}
use Rattle.planner.specs.declared.nodes.Part.{Part}
use Rattle.planner.proofs.Parts.{ok-weaker, part-led}
use Rattle.planner.proofs.nodes.part_at.Goals as goal

pub returns-clause-led : goal.returns-clause-led
returns-clause-led c = λ calm old h.
    let outline = c.in_ok-steps.field-0 in
    let led : Led calm old outline = rw c.in_ok-steps.was at h in
    part-led c.args.place calm old outline.steps outline.tree c.boxed.result led
    (c.boxed.ensures.steps (map (in_part c.args.place) outline.steps) c.in_part.ensures) c.boxed.ensures.tree

pub returns-clause-tree : goal.returns-clause-tree
returns-clause-tree c = λ x h.
    let came : c.in_ok-steps.field-0.tree ≡ x = rw c.in_ok-steps.was at h in
    ok-weaker c.boxed.result (λ (part : Part) (e : part.tree ≡ c.in_ok-steps.field-0.tree). e ∙ came) c.boxed.ensures.tree
