use Rattle.std.proofs.Common.{◌∙◌, ap, subst, refl}
use Rattle.crossbeam_utils.specs.Seq.{cell_view}
use Rattle.sessions.specs.OfCore.{IsSound, number_of, world_of}
use Rattle.shared.specs.declared.event.Question.TheVariants as question
use Rattle.shared.specs.declared.event.Act.TheVariants.{Says}
use Rattle.shared.specs.declared.rule.View.{View}
use Rattle.shared.specs.History.{event}
use Rattle.shared.specs.Views.{Told, caller_in, extended, keeper_in}
use Rattle.shared.proofs.Goods.{says_on}
use Rattle.shared.proofs.Questions.{IsAsked, TakenIn, desk_asked, turn_asked}
use Rattle.shared.proofs.desk.Desk.take_rows.Goals as goal

pub invariant_of-self : goal.invariant_of-self
invariant_of-self g c =
    let t = c.take_in.ensures in
    let r = c.record.ensures.keeper in
    let old = c.self.inside.core in
    let new = c.take_rows-reply.new.self in
    let k = cell_view c.self.inside.keeper in
    let m = cell_view c.me.inside.token in
    let shows = g.S.Store.shows in
    let act = Says (number_of c.me.inside.id) (question.Rows c.args.count) c.take_rows-reply.result in
    let n = g.S.Store.refused new.store in
    let h : TakenIn g.J.Room.premise g.J.Room.start g.J.Room.callers g.J.Room.refused (IsSound g.S.Store.is_sound shows old) (world_of shows old) c.self.inside.count (g.S.Store.refused old.store) k m (number_of c.me.inside.id) =
    record { desk = c.self.invariant.1; counted = c.self.invariant.2; told = subst Told t.view t.told; at = c.me.invariant.3 } in
    let a : IsAsked g.S.Store.is_sound shows old new c.me.inside.id (question.Rows c.args.count) c.take_rows-reply.result (g.S.Store.refused old.store) n =
    record {
      live = c.take_rows-reply.ensures.live;
      on = λ stands. says_on g.S.Store.is_sound shows old new c.me.inside.id (question.Rows c.args.count) c.take_rows-reply.result stands
          (λ rules are sound live good. c.take_rows-reply.ensures.step rules sound live) (λ rules are sound good. c.take_rows-reply.ensures.sound sound);
      counts = c.take_rows-reply.ensures.counts;
      device = c.take_rows-reply.ensures.device;
      limits = c.take_rows-reply.ensures.limits;
    } in
    let x = r.1 ∙ ap (λ (v : View). keeper_in (extended (event v.who act n) v)) t.view in
    let d = desk_asked g.S.Store.is_sound shows old new c.me.inside.id (question.Rows c.args.count) c.take_rows-reply.result (g.S.Store.refused old.store) n
    c.databases_stay_good.ensures.run g.J.Room.premise g.J.Room.start g.J.Room.callers g.J.Room.refused c.self.inside.count k m h a _ x in
    (r.0 ∙ t.cell.0 ∙ c.self.invariant.0, d.0, d.1)

pub returns-clause-turn : goal.returns-clause-turn
returns-clause-turn g c =
    let t = c.take_in.ensures in
    let old = c.self.inside.core in
    let new = c.take_rows-reply.new.self in
    let k = cell_view c.self.inside.keeper in
    let m = cell_view c.me.inside.token in
    let shows = g.S.Store.shows in
    let act = Says (number_of c.me.inside.id) (question.Rows c.args.count) c.take_rows-reply.result in
    let n = g.S.Store.refused new.store in
    let h : TakenIn g.J.Room.premise g.J.Room.start g.J.Room.callers g.J.Room.refused (IsSound g.S.Store.is_sound shows old) (world_of shows old) c.self.inside.count (g.S.Store.refused old.store) k m (number_of c.me.inside.id) =
    record { desk = c.self.invariant.1; counted = c.self.invariant.2; told = subst Told t.view t.told; at = c.me.invariant.3 } in
    let a : IsAsked g.S.Store.is_sound shows old new c.me.inside.id (question.Rows c.args.count) c.take_rows-reply.result (g.S.Store.refused old.store) n =
    record {
      live = c.take_rows-reply.ensures.live;
      on = λ stands. says_on g.S.Store.is_sound shows old new c.me.inside.id (question.Rows c.args.count) c.take_rows-reply.result stands
          (λ rules are sound live good. c.take_rows-reply.ensures.step rules sound live) (λ rules are sound good. c.take_rows-reply.ensures.sound sound);
      counts = c.take_rows-reply.ensures.counts;
      device = c.take_rows-reply.ensures.device;
      limits = c.take_rows-reply.ensures.limits;
    } in
    let x = c.record.ensures.caller.2 ∙ ap (λ (v : View). caller_in (extended (event v.who act n) v)) t.view in
    turn_asked g.S.Store.is_sound shows old new c.me.inside.id (question.Rows c.args.count) c.take_rows-reply.result (g.S.Store.refused old.store) n
    c.databases_stay_good.ensures.run g.J.Room.premise g.J.Room.start g.J.Room.callers g.J.Room.refused c.self.inside.count k m h a _ _ _ c.me.view_is x refl
