use Rattle.std.proofs.Common.{Option, sym, subst, refl}
use Rattle.std.specs.Prelude.{⊤, MatchOption}
use Rattle.store.specs.View.{seen_by}
use Rattle.cursors.specs.declared.cursor.OpenCursor.{OpenCursor}
use Rattle.cursors.specs.Opened.{Fits}
use Rattle.sessions.specs.Opened.{GivesNext}
use Rattle.store.specs.Going.{Going}
use Rattle.sessions.proofs.cursor_calls.fetched.Goals as goal

pub returns-in-Some-clause-gives : goal.returns-in-Some-clause-gives
returns-in-Some-clause-gives g c =
    subst (λ (o : Option OpenCursor). MatchOption o ⊤ (λ cursor. g.S.Store.is_sound c.args.store.now → Fits cursor (seen_by (g.S.Store.shows c.args.store.now) c.args.view)
    → GivesNext cursor c.fetched_from.result.left c.fetched_from.result.reply (seen_by (g.S.Store.shows c.args.store.now) c.args.view))) (sym c.in-Some.is) c.fetched_from.ensures.gives

pub returns-in-Some-clause-device : goal.returns-in-Some-clause-device
returns-in-Some-clause-device g c = c.fetched_from.ensures.device

pub returns-in-Some-clause-limits : goal.returns-in-Some-clause-limits
returns-in-Some-clause-limits g c = c.fetched_from.ensures.limits

pub returns-in-None-clause-device : goal.returns-in-None-clause-device
returns-in-None-clause-device g c = rw c.refused.ensures.reply (λ is. absurd (cc))

pub returns-in-Some-clause-shows : goal.returns-in-Some-clause-shows
returns-in-Some-clause-shows g c = c.fetched_from.ensures.shows

pub returns-in-Some-clause-goes : goal.returns-in-Some-clause-goes
returns-in-Some-clause-goes g c = c.fetched_from.ensures.goes

pub returns-in-None-clause-gives : goal.returns-in-None-clause-gives
returns-in-None-clause-gives g c = rw c.in-None.is tt

pub returns-in-None-clause-limits : goal.returns-in-None-clause-limits
returns-in-None-clause-limits g c = rw c.refused.ensures.reply tt

pub returns-in-None-clause-shows : goal.returns-in-None-clause-shows
returns-in-None-clause-shows g c = refl

pub returns-in-None-clause-goes : goal.returns-in-None-clause-goes
returns-in-None-clause-goes g c = g.met.S.Store.goes_on_refl _ Going.reads
