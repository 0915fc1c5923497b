use Rattle.std.proofs.Common.{◌+◌, ◌%◌, ◌^◌, sym, ap, ◌∙◌, subst, subst₂}
use Rattle.crossbeam_utils.specs.Seq.{cell_view}
use Rattle.session_definitions.specs.World.{is_live}
use Rattle.sessions.specs.OfCore.{IsSound, number_of, world_of}
use Rattle.shared.specs.declared.rule.View.{View}
use Rattle.shared.specs.declared.event.Act.TheVariants.{Connects, Refused}
use Rattle.shared.specs.History.{IsCounted, event}
use Rattle.shared.specs.Views.{keeper_in, caller_in, extended, past, Past, Told, IsDesk, Extends}
use Rattle.shared.proofs.Goods.{connects_on, refused_on}
use Rattle.shared.proofs.Counting.{counted_after, not_disk, same_count}
use Rattle.shared.proofs.Desks.{desk_after, extends_after, live_made, nobodys}
use Rattle.shared.proofs.desk.Desk.connect.Goals as goal

pub invariant_of-self : goal.invariant_of-self
invariant_of-self g c =
    let t = c.take_in.ensures in
    let told = subst Told t.view t.told in
    let r = c.record-token.ensures.keeper in
    let act = Connects (number_of c.in-Ok.id) in
    let n = g.S.Store.refused c.new_session.new.self.store in
    let x = r.1 ∙ ap (λ (v : View). keeper_in (extended (event v.who act n) v)) t.view in (
      r.0 ∙ t.cell.0 ∙ c.self.invariant.0,
      subst (λ (v : View). IsDesk g.J.Room.premise g.J.Room.start g.J.Room.callers (IsSound g.S.Store.is_sound g.S.Store.shows c.new_session.new.self) (world_of g.S.Store.shows c.new_session.new.self) ((c.self.inside.count + 1) % 2 ^ 64) v) (sym x)
          (desk_after c.databases_stay_good.ensures.run _ _ _ _ _ _ _ _ (cell_view c.self.inside.keeper) (cell_view c.me.inside.token) act n c.self.invariant.1 told (nobodys _ _ _ _ _ _ (cell_view c.self.inside.keeper) (number_of c.in-Ok.id) c.self.invariant.1 c.in-Ok.ensures.free) (live_made (world_of g.S.Store.shows c.self.inside.core) (world_of g.S.Store.shows c.new_session.new.self) (number_of c.in-Ok.id) c.in-Ok.ensures.live.0 c.in-Ok.ensures.live.1)
          (connects_on g.S.Store.is_sound g.S.Store.shows c.self.inside.core c.new_session.new.self c.in-Ok.id c.in-Ok.ensures.makes c.in-Ok.ensures.sound)),
      subst (λ (v : View). IsCounted g.J.Room.refused (g.S.Store.refused c.new_session.new.self.store) v.log) (sym x)
          (counted_after _ _ (cell_view c.self.inside.keeper).log (event (cell_view c.me.inside.token).who act n) (same_count _ _ c.new_session.ensures.counts) tt tt c.self.invariant.2),
    )

pub returns-in-Ok-clause-ok : goal.returns-in-Ok-clause-ok
returns-in-Ok-clause-ok g c =
    let t = c.take_in.ensures in
    let act = Connects (number_of c.in-Ok.id) in
    let n = g.S.Store.refused c.new_session.new.self.store in
    let x = c.record-token.ensures.caller.2 ∙ ap (λ (v : View). caller_in (extended (event v.who act n) v)) t.view in
    let told = subst Told t.view t.told in
    record {
      id = number_of c.in-Ok.id;
      at = ap (λ (v : View). v.at) x;
      call = subst₂ (λ (p q : Past). Extends g.J.Room.premise g.J.Room.start g.J.Room.refused p act q) c.me.view_is (ap past (sym x))
          (extends_after c.databases_stay_good.ensures.run _ _ _ _ (IsSound g.S.Store.is_sound g.S.Store.shows c.new_session.new.self) _ _ _ (cell_view c.self.inside.keeper) (cell_view c.me.inside.token) act n g.J.Room.refused c.self.invariant.1 told (nobodys _ _ _ _ _ _ (cell_view c.self.inside.keeper) (number_of c.in-Ok.id) c.self.invariant.1 c.in-Ok.ensures.free)
          (counted_after _ _ (cell_view c.self.inside.keeper).log (event (cell_view c.me.inside.token).who act n) (same_count _ _ c.new_session.ensures.counts) tt tt c.self.invariant.2)
          (connects_on g.S.Store.is_sound g.S.Store.shows c.self.inside.core c.new_session.new.self c.in-Ok.id c.in-Ok.ensures.makes c.in-Ok.ensures.sound));
    }

pub invariant_of-self-2 : goal.invariant_of-self-2
invariant_of-self-2 g c =
    let t = c.take_in.ensures in
    let told = subst Told t.view t.told in
    let r = c.record-token-in-Err.ensures.keeper in
    let act = Refused c.in-Err.refusal in
    let n = g.S.Store.refused c.new_session.new.self.store in
    let x = r.1 ∙ ap (λ (v : View). keeper_in (extended (event v.who act n) v)) t.view in (
      r.0 ∙ t.cell.0 ∙ c.self.invariant.0,
      subst (λ (v : View). IsDesk g.J.Room.premise g.J.Room.start g.J.Room.callers (IsSound g.S.Store.is_sound g.S.Store.shows c.new_session.new.self) (world_of g.S.Store.shows c.new_session.new.self) ((c.self.inside.count + 1) % 2 ^ 64) v) (sym x)
          (desk_after c.databases_stay_good.ensures.run _ _ _ _ _ _ _ _ (cell_view c.self.inside.keeper) (cell_view c.me.inside.token) act n c.self.invariant.1 told tt (λ id. ap (λ x. is_live (world_of g.S.Store.shows x) id) c.in-Err.ensures.refused.1)
          (refused_on g.S.Store.is_sound g.S.Store.shows c.self.inside.core c.new_session.new.self c.in-Err.refusal c.in-Err.ensures.makes c.in-Err.ensures.sound)),
      subst (λ (v : View). IsCounted g.J.Room.refused (g.S.Store.refused c.new_session.new.self.store) v.log) (sym x)
          (counted_after _ _ (cell_view c.self.inside.keeper).log (event (cell_view c.me.inside.token).who act n) (same_count _ _ c.new_session.ensures.counts) (not_disk _ _ _ c.in-Err.ensures.refused.0) c.in-Err.ensures.refused.0 c.self.invariant.2),
    )

pub returns-clause-err : goal.returns-clause-err
returns-clause-err g c =
    let t = c.take_in.ensures in
    let act = Refused c.in-Err.refusal in
    let n = g.S.Store.refused c.new_session.new.self.store in
    let x = c.record-token-in-Err.ensures.caller.2 ∙ ap (λ (v : View). caller_in (extended (event v.who act n) v)) t.view in
    let told = subst Told t.view t.told in
    subst₂ (λ (p q : Past). Extends g.J.Room.premise g.J.Room.start g.J.Room.refused p act q) c.me.view_is (ap past (sym x))
    (extends_after c.databases_stay_good.ensures.run _ _ _ _ (IsSound g.S.Store.is_sound g.S.Store.shows c.new_session.new.self) _ _ _ (cell_view c.self.inside.keeper) (cell_view c.me.inside.token) act n g.J.Room.refused c.self.invariant.1 told tt
    (counted_after _ _ (cell_view c.self.inside.keeper).log (event (cell_view c.me.inside.token).who act n) (same_count _ _ c.new_session.ensures.counts) (not_disk _ _ _ c.in-Err.ensures.refused.0) c.in-Err.ensures.refused.0 c.self.invariant.2)
    (refused_on g.S.Store.is_sound g.S.Store.shows c.self.inside.core c.new_session.new.self c.in-Err.refusal c.in-Err.ensures.makes c.in-Err.ensures.sound))

pub returns-in-Ok-clause-err : goal.returns-in-Ok-clause-err
returns-in-Ok-clause-err g c = tt

pub returns-in-Ok-clause-full : goal.returns-in-Ok-clause-full
returns-in-Ok-clause-full g c = tt

pub returns-clause-ok : goal.returns-clause-ok
returns-clause-ok g c = tt

pub returns-clause-full : goal.returns-clause-full
returns-clause-full g c = c.in-Err.ensures.refused.0
