use Rattle.std.proofs.Common.{◌≡◌, ◌∙◌, sym, subst, true, IfOk}
use Rattle.std.specs.Prelude.{is_some}
use Rattle.algebra.specs.declared.tree.Tree.{Tree}
use Rattle.rules.specs.Applied.{here}
use Rattle.rule_steps.specs.declared.attempt.Attempt.{Attempt}
use Rattle.rule_steps.proofs.Attempts.{unused-is, used-is}
use Rattle.rule_steps.proofs.attempt.used_if.Goals as goal

pub returns-then-can : goal.returns-then-can
returns-then-can c = λ calm e.
    let h : is_some (here calm c.args.rule c.args.tree) ≡ true = sym e ∙ c.if-can.true in
    let u = used-is (here calm c.args.rule c.args.tree) c.args.tree h in
    subst (λ (x : Attempt Tree). IfOk c.changed.result (λ tried. tried ≡ x)) u.2
    (c.changed.ensures u.0 (c.used.ensures calm u.0 u.1))

pub returns-else-can : goal.returns-else-can
returns-else-can c = λ calm e. unused-is (here calm c.args.rule c.args.tree) c.args.tree (sym e ∙ c.if-can.false)
