use Rattle.std.proofs.Common.{rules, Some, sym, ap, ◌∙◌, subst}
use Rattle.shared.specs.declared.rule.View.{View}
use Rattle.shared.specs.Views.{Past, Told}
use Rattle.shared.proofs.Histories.{none_some}
use Rattle.shared.proofs.Moves.{gives_back}
use Rattle.shared.proofs.desk.hear.Goals as goal

pub returns-clause-idle : goal.returns-clause-idle
returns-clause-idle g c =
    let t = c.take_in.ensures in
    let told = subst Told t.view t.told in
    λ id held. none_some id (sym c.client.invariant.3 ∙ told.alone id (held ∙ ap (λ (p : Past). Some p.who) (sym c.client.view_is)))

pub split_pass-parted-requires : goal.split_pass-parted-requires
split_pass-parted-requires g c =
    let t = c.take_in.ensures in (
      search rules,
      (
        search rules,
        (t.cell.0 ∙ c.requires.cell.0, gives_back _ _ (ap (λ (v : View). v.keeps) t.view ∙ c.requires.view) (ap (λ (v : View). v.calls) t.view ∙ c.client.invariant.2)),
      ),
    )
