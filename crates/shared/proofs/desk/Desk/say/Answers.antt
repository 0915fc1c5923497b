use Rattle.std.proofs.Common.{◌∙◌, ap, subst, refl}
use Rattle.crossbeam_utils.specs.Seq.{cell_view}
use Rattle.sessions.specs.OfCore.{IsSound, number_of, world_of}
use Rattle.shared.specs.declared.event.Question.TheVariants as question
use Rattle.shared.specs.declared.event.Act.TheVariants.{Says}
use Rattle.shared.specs.declared.rule.View.{View}
use Rattle.shared.specs.History.{event}
use Rattle.shared.specs.Views.{Told, caller_in, extended, keeper_in}
use Rattle.shared.proofs.Desks.{stands_at}
use Rattle.shared.proofs.Goods.{says_on}
use Rattle.shared.proofs.Limits.{call_told}
use Rattle.shared.proofs.Questions.{IsAsked, TakenIn, desk_asked, turn_asked}
use Rattle.shared.proofs.desk.Desk.say.Goals as goal

pub invariant_of-self : goal.invariant_of-self
invariant_of-self g c =
    let t = c.take_in.ensures in
    let r = c.record.ensures.keeper in
    let old = c.self.inside.core in
    let new = c.step-reply.new.self in
    let k = cell_view c.self.inside.keeper in
    let m = cell_view c.me.inside.token in
    let shows = g.S.Store.shows in
    let act = Says (number_of c.me.inside.id) (question.Text c.args.text.now) c.step-reply.result in
    let n = g.S.Store.refused new.store in
    let h : TakenIn g.J.Room.premise g.J.Room.start g.J.Room.callers g.J.Room.refused (IsSound g.S.Store.is_sound shows old) (world_of shows old) c.self.inside.count (g.S.Store.refused old.store) k m (number_of c.me.inside.id) =
    record { desk = c.self.invariant.1; counted = c.self.invariant.2; told = subst Told t.view t.told; at = c.me.invariant.3 } in
    let a : IsAsked g.S.Store.is_sound shows old new c.me.inside.id (question.Text c.args.text.now) c.step-reply.result (g.S.Store.refused old.store) n =
    record {
      live = c.step-reply.ensures.live;
      on = λ stands. says_on g.S.Store.is_sound shows old new c.me.inside.id (question.Text c.args.text.now) c.step-reply.result stands
          c.step-reply.ensures.step c.step-reply.ensures.sound;
      counts = c.step-reply.ensures.counts;
      device = c.step-reply.ensures.device;
      limits = call_told (g.S.Store.counted old.store) (shows old.store).commits c.args.text.now c.step-reply.result c.step-reply.ensures.limits;
    } in
    let x = r.1 ∙ ap (λ (v : View). keeper_in (extended (event v.who act n) v)) t.view in
    let d = desk_asked g.S.Store.is_sound shows old new c.me.inside.id (question.Text c.args.text.now) c.step-reply.result (g.S.Store.refused old.store) n
    c.databases_stay_good.ensures.run g.J.Room.premise g.J.Room.start g.J.Room.callers g.J.Room.refused c.self.inside.count k m h a _ x in
    (r.0 ∙ t.cell.0 ∙ c.self.invariant.0, d.0, d.1)

pub returns-clause-said : goal.returns-clause-said
returns-clause-said g c =
    let t = c.take_in.ensures in
    let old = c.self.inside.core in
    let new = c.step-reply.new.self in
    let k = cell_view c.self.inside.keeper in
    let m = cell_view c.me.inside.token in
    let shows = g.S.Store.shows in
    let act = Says (number_of c.me.inside.id) (question.Text c.args.text.now) c.step-reply.result in
    let n = g.S.Store.refused new.store in
    let h : TakenIn g.J.Room.premise g.J.Room.start g.J.Room.callers g.J.Room.refused (IsSound g.S.Store.is_sound shows old) (world_of shows old) c.self.inside.count (g.S.Store.refused old.store) k m (number_of c.me.inside.id) =
    record { desk = c.self.invariant.1; counted = c.self.invariant.2; told = subst Told t.view t.told; at = c.me.invariant.3 } in
    let a : IsAsked g.S.Store.is_sound shows old new c.me.inside.id (question.Text c.args.text.now) c.step-reply.result (g.S.Store.refused old.store) n =
    record {
      live = c.step-reply.ensures.live;
      on = λ stands. says_on g.S.Store.is_sound shows old new c.me.inside.id (question.Text c.args.text.now) c.step-reply.result stands
          c.step-reply.ensures.step c.step-reply.ensures.sound;
      counts = c.step-reply.ensures.counts;
      device = c.step-reply.ensures.device;
      limits = call_told (g.S.Store.counted old.store) (shows old.store).commits c.args.text.now c.step-reply.result c.step-reply.ensures.limits;
    } in
    let x = c.record.ensures.caller.2 ∙ ap (λ (v : View). caller_in (extended (event v.who act n) v)) t.view in
    let turn = turn_asked g.S.Store.is_sound shows old new c.me.inside.id (question.Text c.args.text.now) c.step-reply.result (g.S.Store.refused old.store) n
    c.databases_stay_good.ensures.run g.J.Room.premise g.J.Room.start g.J.Room.callers g.J.Room.refused c.self.inside.count k m h a _ _ _ c.me.view_is x refl in
    record {
      id = turn.id;
      at = turn.at;
      call = turn.call;
      limits = a.limits;
      rolled_back = λ is. c.step-reply.ensures.rolled_back is (stands_at _ _ _ _ _ _ k m _ c.self.invariant.1 h.told c.me.invariant.3);
    }
