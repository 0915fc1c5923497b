use Rattle.session_definitions.specs.Asked.{Asked}
use Rattle.sessions.specs.OfCore.{slots_of, world_of}
use Rattle.scripts.specs.ToldLimits.{Ever, UpTo}
use Rattle.scripts.proofs.Keeping.{commits_grow, kept_step, good_seen}
use Rattle.scripts.proofs.Placed.{held_same}
use Rattle.scripts.proofs.Carried.{plays_found, ready_found, live_found, ready_alike, plays_not_made, ready_not_made}
use Rattle.scripts.proofs.Limits.{call_told, none_told}
use Rattle.std.proofs.Math.Nat.{le_trans}
use Rattle.scripts.proofs.script.Sessions.call.Goals as goal

pub returns-in-Ok-clause-plays : goal.returns-in-Ok-clause-plays
returns-in-Ok-clause-plays g c = λ r are h ready.
    let shows = g.S.Store.shows in
    let old = world_of shows c.args.core.now in
    let mid = world_of shows c.session.new.core in
    let new = world_of shows c.step.new.self in
    let found = c.in-Ok.ensures.finds h.sound ready.within in
    let kept = c.session.ensures.kept r are h in
    let live = live_found r old mid new c.args.self.now c.session.new.self c.in-Ok.session found ready in
    let good = good_seen r.check (shows c.session.new.core.store) c.session.new.core.writer (slots_of c.session.new.core) c.in-Ok.session.number kept.sound.order live kept.good in (
      plays_found r old mid new c.args.self.now c.session.new.self c.in-Ok.session c.args.text.now c.step.result found (c.step.ensures.step r are kept.sound live good),
      ready_alike mid new c.session.new.self c.step.ensures.live (ready_found r old mid new c.args.self.now c.session.new.self c.in-Ok.session found ready),
    )

pub returns-in-Err-clause-plays : goal.returns-in-Err-clause-plays
returns-in-Err-clause-plays g c = λ r are h ready.
    let old = world_of g.S.Store.shows c.args.core.now in
    let new = world_of g.S.Store.shows c.session.new.core in
    let none = c.in-Err.ensures.finds h.sound ready.within in (
      plays_not_made r old new c.args.self.now c.session.new.self c.in-Err.refusal c.args.text.now none.empty none.refused none.same,
      ready_not_made old new c.args.self.now c.session.new.self c.in-Err.refusal none ready,
    )

pub returns-in-Ok-clause-kept : goal.returns-in-Ok-clause-kept
returns-in-Ok-clause-kept g c = λ r are h.
    kept_step g.S.Store.is_sound g.S.Store.shows r (λ start end moments. c.databases_stay_good.ensures.run r start end moments are) c.session.new.core c.step.new.self c.in-Ok.session (Asked.Text c.args.text.now) c.step.result
    (c.step.ensures.step r are) (c.step.ensures.sound r are) (λ dead. (c.step.ensures.ended dead).1) (c.session.ensures.kept r are h)

pub returns-in-Ok-clause-held : goal.returns-in-Ok-clause-held
returns-in-Ok-clause-held g c = λ held.
    held_same c.session.new.self.standing (world_of g.S.Store.shows c.session.new.core) (world_of g.S.Store.shows c.step.new.self) c.step.ensures.live (c.session.ensures.held held)

pub returns-in-Ok-clause-limits : goal.returns-in-Ok-clause-limits
returns-in-Ok-clause-limits g c = call_told Ever (g.S.Store.counted c.session.new.core.store) (g.S.Store.shows c.session.new.core.store).commits c.args.text.now c.step.result tt c.step.ensures.limits

pub returns-in-Err-clause-limits : goal.returns-in-Err-clause-limits
returns-in-Err-clause-limits g c = none_told Ever c.args.text.now c.in-Err.refusal c.in-Err.ensures.limits

pub returns-in-Ok-clause-within : goal.returns-in-Ok-clause-within
returns-in-Ok-clause-within g c = λ r are h.
    call_told (UpTo (g.S.Store.shows c.step.new.self.store).commits) (g.S.Store.counted c.session.new.core.store) (g.S.Store.shows c.session.new.core.store).commits c.args.text.now c.step.result
    (commits_grow g.S.Store.is_sound g.S.Store.shows r c.session.new.core c.step.new.self c.in-Ok.session c.args.text.now c.step.result
    (c.step.ensures.step r are) (λ dead. (c.step.ensures.ended dead).1) (c.session.ensures.kept r are h)) c.step.ensures.limits

pub returns-in-Err-clause-within : goal.returns-in-Err-clause-within
returns-in-Err-clause-within g c = λ r are h. none_told (UpTo (g.S.Store.shows c.session.new.core.store).commits) c.args.text.now c.in-Err.refusal c.in-Err.ensures.limits

pub returns-in-Ok-clause-refused : goal.returns-in-Ok-clause-refused
returns-in-Ok-clause-refused g c = c.session.ensures.refused

pub returns-in-Ok-clause-counts : goal.returns-in-Ok-clause-counts
returns-in-Ok-clause-counts g c = le_trans c.session.ensures.counts c.step.ensures.counts

pub returns-in-Err-clause-refused : goal.returns-in-Err-clause-refused
returns-in-Err-clause-refused g c = c.session.ensures.refused

pub returns-in-Err-clause-kept : goal.returns-in-Err-clause-kept
returns-in-Err-clause-kept g c = c.session.ensures.kept

pub returns-in-Err-clause-held : goal.returns-in-Err-clause-held
returns-in-Err-clause-held g c = c.session.ensures.held

pub returns-in-Err-clause-counts : goal.returns-in-Err-clause-counts
returns-in-Err-clause-counts g c = c.session.ensures.counts
