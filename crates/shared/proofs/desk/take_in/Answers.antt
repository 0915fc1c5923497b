use Rattle.std.proofs.Common.{rules, sym, ap, ◌∙◌}
use Rattle.crossbeam_utils.specs.Seq.{cell_view}
use Rattle.shared.specs.declared.rule.View.{View}
use Rattle.shared.proofs.Moves.{spares, takes_in, peeks}
use Rattle.shared.proofs.desk.take_in.Goals as goal

pub split_pass-spare-requires : goal.split_pass-spare-requires
split_pass-spare-requires g c = (search rules, (search rules, (c.requires.cell.0, spares _ _)))

pub join_pass-requires : goal.join_pass-requires
join_pass-requires g c =
    let s = c.split_pass-spare.ensures.kept in
    let r = c.replace-guest.ensures.value in (
      search rules,
      (
        search rules,
        (
          (
            s.0.0 ∙ c.requires.cell.0,
            ap (λ p. p.table_id) r ∙ c.requires.cell.1 ∙ sym s.0.0,
            ap (λ p. p.me.1) r ∙ c.requires.cell.2,
          ),
          takes_in _ _ _ _ (ap (λ v. v.keeps) s.1 ∙ c.requires.views.0) (ap (λ (v : View). v.calls) (ap cell_view r) ∙ c.requires.views.1),
        ),
      ),
    )

pub load_as-requires : goal.load_as-requires
load_as-requires g c =
    let s = c.split_pass-spare.ensures.kept in
    let r = c.replace-guest.ensures.value in
    let j = c.join_pass.ensures in (
      search rules,
      (
        search rules,
        (
          j.0.0 ∙ s.0.0 ∙ c.requires.cell.0,
          peeks _ _ (ap (λ v. v.keeps) j.1 ∙ ap (λ v. v.keeps) s.1 ∙ c.requires.views.0) (ap (λ v. v.calls) j.1 ∙ ap (λ (v : View). v.calls) (ap cell_view r) ∙ c.requires.views.1),
        ),
      ),
    )
