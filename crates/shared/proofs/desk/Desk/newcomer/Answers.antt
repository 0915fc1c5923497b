use Rattle.std.proofs.Common.{sym, ◌∙◌, subst}
use Rattle.sessions.specs.OfCore.{IsSound, world_of}
use Rattle.shared.specs.declared.rule.View.{View}
use Rattle.shared.specs.History.{IsCounted}
use Rattle.shared.specs.Views.{IsDesk}
use Rattle.shared.proofs.Desks.{desk_opened}
use Rattle.shared.proofs.desk.Desk.newcomer.Goals as goal

pub invariant_of-self : goal.invariant_of-self
invariant_of-self g c =
    let k = c.newcomer.ensures.keeper in (
      k.0 ∙ c.self.invariant.0,
      subst (λ (v : View). IsDesk g.J.Room.premise g.J.Room.start g.J.Room.callers (IsSound g.S.Store.is_sound g.S.Store.shows c.self.inside.core) (world_of g.S.Store.shows c.self.inside.core) c.self.inside.count v) (sym k.1)
          (desk_opened _ _ _ _ _ _ _ c.requires.any c.self.invariant.1),
      subst (λ (v : View). IsCounted g.J.Room.refused (g.S.Store.refused c.self.inside.core.store) v.log) (sym k.1) c.self.invariant.2,
    )
