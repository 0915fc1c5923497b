use Rattle.std.proofs.Common.{◌≡◌, ap, ◌∙◌, subst, IfOk}
use Rattle.algebra.specs.declared.tree.Condition.{Condition}
use Rattle.algebra.specs.declared.tree.Tree.{Tree}
use Rattle.rules.specs.Columns.{moved, to_half}
use Rattle.rules.specs.Width.{width_of_tree}
use Rattle.rule_steps.proofs.Opening.{half-made}
use Rattle.rule_steps.proofs.subqueries.scan_halved.Goals as goal

pub returns : goal.returns
returns c = λ items new e.
    let m = half-made c.args.wanted c.args.left items c.args.condition c.args.table new e in
    subst (λ (x : Tree). IfOk c.half_of.result (λ made. made ≡ x)) m.2
    (c.half_of.ensures (moved (to_half m.0) c.args.condition)
    (subst (λ (x : Condition). IfOk c.half_condition-on.result (λ made. made ≡ moved (to_half m.0) x)) c.get.ensures
    (c.half_condition-on.ensures m.0 (ap width_of_tree c.get-2.ensures ∙ m.1))))
