use Rattle.std.proofs.Common.{◌≡◌, ◌∙◌, ap, sym, Bool, List, not}
use Rattle.std.specs.Prelude.{◌&&◌, is_some}
use Rattle.algebra.specs.declared.tree.Condition.{Condition}
use Rattle.rules.specs.Conjuncts.{conjuncts, quiet}
use Rattle.rules.specs.FilterRules.{left_filtered}
use Rattle.rules.specs.Width.{width_of_tree}
use Rattle.rule_steps.proofs.Chosen.{told-then}
use Rattle.rule_steps.proofs.filters.goes_left.Goals as goal

pub returns-in-Some : goal.returns-in-Some
returns-in-Some c =
    let conditions : c.both-conditions.result ≡ (quiet c.args.condition.now && quiet c.args.on.now) = c.both-conditions.ensures
    ∙ (λ i. not (c.condition_can_raise.ensures.told i) && not (c.condition_can_raise-2.ensures.told i)) in
    c.both.ensures ∙ ap (λ (b : Bool). b && c.some_left.result)
    (c.both-quiet.ensures ∙ ap (λ (b : Bool). c.args.calm && b) conditions)
    ∙ told-then (c.args.calm && (quiet c.args.condition.now && quiet c.args.on.now))
    (left_filtered (conjuncts c.args.condition.now) c.args.on.now c.args.left.now c.args.right.now c.args.padding)
    (width_of_tree c.args.left.now) c.in-Some.width c.some_left.result (sym c.in_ok-width.ensures ∙ c.in-Some.is)
    (c.some_left.ensures c.args.on.now c.args.left.now c.args.right.now c.args.padding ∙ ap (λ (list : List Condition).
    is_some (left_filtered list c.args.on.now c.args.left.now c.args.right.now c.args.padding c.in-Some.width)) c.conjuncts.ensures)
