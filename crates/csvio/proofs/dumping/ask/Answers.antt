use Rattle.std.proofs.Common.{◌≡◌, ◌∙◌, refl, subst, le_refl}
use Rattle.lexer.specs.Token.{Bytes}
use Rattle.session_definitions.specs.Asked.{Asked}
use Rattle.sessions.specs.OfCore.{slots_of, world_of}
use Rattle.scripts.proofs.Keeping.{good_seen, kept_step}
use Rattle.csvio.specs.Dumping.{Asks}
use Rattle.csvio.proofs.dumping.ask.Goals as goal

pub returns-in-Ok-clause-asks : goal.returns-in-Ok-clause-asks
returns-in-Ok-clause-asks g c = λ rules asked are kept live made.
    let shows = g.S.Store.shows in
    let core = c.args.core.now in
    let good = good_seen rules.check (shows core.store) core.writer (slots_of core) c.args.session.number kept.sound.order live kept.good in
    subst (λ (text : Bytes). Asks rules (world_of shows core) c.args.session.number text c.step.result (world_of shows c.step.new.self)) (c.as_slice.ensures.value ∙ (rw c.in-Ok.is at made))
    (Asks.asked (c.step.ensures.step rules are kept.sound live good))

pub returns-in-Ok-clause-kept : goal.returns-in-Ok-clause-kept
returns-in-Ok-clause-kept g c = λ rules are kept.
    kept_step g.S.Store.is_sound g.S.Store.shows rules (λ start end moments. c.databases_stay_good.ensures.run rules start end moments are) c.args.core.now c.step.new.self c.args.session
    (Asked.Text c.as_slice.result.now) c.step.result (c.step.ensures.step rules are) (c.step.ensures.sound rules are) (λ dead. (c.step.ensures.ended dead).1) kept

pub returns-in-Err-clause-asks : goal.returns-in-Err-clause-asks
returns-in-Err-clause-asks g c = λ rules asked are kept live made. Asks.unasked refl refl

pub returns-in-Ok-clause-live : goal.returns-in-Ok-clause-live
returns-in-Ok-clause-live g c = c.step.ensures.live

pub returns-in-Ok-clause-counts : goal.returns-in-Ok-clause-counts
returns-in-Ok-clause-counts g c = c.step.ensures.counts

pub returns-in-Err-clause-kept : goal.returns-in-Err-clause-kept
returns-in-Err-clause-kept g c = λ rules are kept. kept

pub returns-in-Err-clause-live : goal.returns-in-Err-clause-live
returns-in-Err-clause-live g c = λ s. refl

pub returns-in-Err-clause-counts : goal.returns-in-Err-clause-counts
returns-in-Err-clause-counts g c = le_refl _
