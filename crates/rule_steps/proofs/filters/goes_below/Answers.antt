use Rattle.std.proofs.Common.{◌≡◌, ◌∙◌, ap, sym, Bool, List, not}
use Rattle.std.specs.Prelude.{◌&&◌, is_some}
use Rattle.algebra.specs.declared.tree.Condition.{Condition}
use Rattle.rules.specs.Conjuncts.{conjuncts, quiet}
use Rattle.rules.specs.FilterRules.{sides_filtered}
use Rattle.rules.specs.Width.{width_of_tree}
use Rattle.rule_steps.proofs.Chosen.{told-then}
use Rattle.rule_steps.proofs.filters.goes_below.Goals as goal

pub returns-in-Some : goal.returns-in-Some
returns-in-Some c = c.both.ensures ∙ ap (λ (b : Bool). b && c.has_side.result)
    (c.both-quiet.ensures ∙ ap (λ (b : Bool). c.args.calm && not b) c.condition_can_raise.ensures.told)
    ∙ told-then (c.args.calm && quiet c.args.condition.now)
    (sides_filtered (conjuncts c.args.condition.now) c.args.left.now c.args.right.now) (width_of_tree c.args.left.now)
    c.in-Some.width c.has_side.result (sym c.in_ok-width.ensures ∙ c.in-Some.is)
    (c.has_side.ensures c.args.left.now c.args.right.now ∙ ap (λ (list : List Condition).
    is_some (sides_filtered list c.args.left.now c.args.right.now c.in-Some.width)) c.conjuncts.ensures)
