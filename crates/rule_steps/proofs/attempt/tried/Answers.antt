use Rattle.std.proofs.Common.{◌≡◌, ◌∙◌, refl, ap, sym, subst, IfOk}
use Rattle.std.specs.Prelude.{is_some}
use Rattle.algebra.specs.declared.tree.Tree.{Tree}
use Rattle.rules.specs.Applied.{here}
use Rattle.rule_steps.specs.Attempted.{attempt}
use Rattle.rule_steps.proofs.attempt.tried.Goals as goal

pub returns-in-Ok : goal.returns-in-Ok
returns-in-Ok c =
    let calm = c.args.calm in
    let rule = c.args.rule in
    let same : c.in-Ok.tree ≡ c.args.tree = c.in-Ok.ensures.second c.args.tree refl in
    let can : c.in-Ok.can ≡ is_some (here calm rule c.args.tree) = c.in-Ok.ensures.first _ c.can_use-can.ensures in
    subst (λ (x : Tree). IfOk c.used_if.result (λ tried. tried ≡ attempt (here calm rule x) x)) same
    (c.used_if.ensures calm (can ∙ ap (λ (x : Tree). is_some (here calm rule x)) (sym same)))
