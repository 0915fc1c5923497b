use Rattle.std.proofs.Common.{◌≡◌, ◌∙◌, sym, subst, map}
use Rattle.algebra.specs.declared.tree.Tree.TheVariants as t
use Rattle.planner.specs.Led.{IsCalm, Led, turned}
use Rattle.planner.specs.Looks.{Over, alone, filter}
use Rattle.planner.proofs.Overs.{over-on}
use Rattle.planner.proofs.Walked.{replays}
use Rattle.std.proofs.Common.{refl}
use Rattle.rewrite_laws.proofs.Conditions.{plain-quiet}
use Rattle.planner.specs.Joins.{Has, asked, scanned}
use Rattle.planner.proofs.plans.plan_found.Goals as goal

pub returns-clause-replays : goal.returns-clause-replays
returns-clause-replays c =
    let calm = c.conditions_quiet-calm.result in
    let is_calm : IsCalm calm c.args.tree = λ f. sym c.conditions_quiet-calm.ensures ∙ f in
    let outline = c.in_ok-steps.field-0 in
    let led : Led calm c.args.tree outline = c.in_ok-steps.ensures.led is_calm in
    c.with_choices.ensures.replays c.args.tree outline.tree (map turned outline.steps)
    (replays calm outline.steps c.args.tree outline.tree led.steps) c.turned-steps.ensures c.improved.ensures.led

pub returns-clause-looks : goal.returns-clause-looks
returns-clause-looks c = λ condition table asks.
    let over : Over (t.Scan table) c.args.tree = over-on (t.Scan table) (t.Filter condition (t.Scan table)) c.args.tree
    (filter condition (t.Scan table) asks.wants.bare alone) asks.over in
    let still : c.in_ok-steps.field-0.tree ≡ c.args.tree = c.in_ok-steps.ensures.still table over in
    c.with_choices.ensures.looks condition table (c.improved.ensures.looks condition table (record {
      over = subst (Over (t.Filter condition (t.Scan table))) (sym still) asks.over;
      wants = asks.wants;
    }))

pub returns-clause-joins : goal.returns-clause-joins
returns-clause-joins c = λ condition left right asks.
    let pairs = t.Product (t.Scan left) (t.Scan right) in
    let has : Has (asked left right) c.args.tree = record {
      base = t.Filter condition pairs;
      filtered = record {
        condition = condition;
        rows = pairs;
        is = refl;
        silent = plain-quiet (record {
          condition = c.denials_are_certain.ensures.condition;
          expression = c.denials_are_certain.ensures.expression;
          plain = c.denials_are_certain.ensures.plain;
        }) condition asks.equates.plain;
        equates = asks.equates;
        beside = record { l = t.Scan left; r = t.Scan right; is = refl; first = scanned; second = scanned };
      };
      over = asks.over;
    } in
    c.with_choices.ensures.joins left right (c.improved.ensures.done (asked left right) (c.in_ok-steps.ensures.has (asked left right) has))
