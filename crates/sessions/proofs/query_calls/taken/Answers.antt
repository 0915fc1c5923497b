use Rattle.std.proofs.Common.{Option, sym, subst, refl}
use Rattle.std.specs.Prelude.{◌≡◌, MatchOption, None}
use Rattle.refusals.specs.declared.refusal.Refusal.TheVariants.{CursorState}
use Rattle.replies.specs.declared.reply.Reply.TheVariants as says
use Rattle.store.specs.View.{seen_by}
use Rattle.cursors.specs.declared.cursor.OpenCursor.{OpenCursor}
use Rattle.cursors.specs.Opened.{Fits}
use Rattle.sessions.specs.Opened.{GivesRows}
use Rattle.store.specs.Going.{Going}
use Rattle.sessions.proofs.query_calls.taken.Goals as goal

pub returns-in-Some-clause-gives : goal.returns-in-Some-clause-gives
returns-in-Some-clause-gives g c =
    subst (λ (o : Option OpenCursor). MatchOption o ((c.taken_from.result.left ≡ None) × (c.taken_from.result.reply ≡ says.Refused CursorState))
    (λ cursor. g.S.Store.is_sound c.args.store.now → Fits cursor (seen_by (g.S.Store.shows c.args.store.now) c.args.view)
    → GivesRows cursor c.args.count c.taken_from.result.left c.taken_from.result.reply (seen_by (g.S.Store.shows c.args.store.now) c.args.view))) (sym c.in-Some.is) c.taken_from.ensures.gives

pub returns-in-Some-clause-told : goal.returns-in-Some-clause-told
returns-in-Some-clause-told g c = c.taken_from.ensures.told

pub returns-in-Some-clause-device : goal.returns-in-Some-clause-device
returns-in-Some-clause-device g c = c.taken_from.ensures.device

pub returns-in-Some-clause-limits : goal.returns-in-Some-clause-limits
returns-in-Some-clause-limits g c = c.taken_from.ensures.limits

pub returns-in-None-clause-device : goal.returns-in-None-clause-device
returns-in-None-clause-device g c = rw c.refused.ensures.reply (λ is. absurd (cc))

pub returns-in-Some-clause-shows : goal.returns-in-Some-clause-shows
returns-in-Some-clause-shows g c = c.taken_from.ensures.shows

pub returns-in-Some-clause-goes : goal.returns-in-Some-clause-goes
returns-in-Some-clause-goes g c = c.taken_from.ensures.goes

pub returns-in-None-clause-gives : goal.returns-in-None-clause-gives
returns-in-None-clause-gives g c = rw c.in-None.is (c.refused.ensures.left, c.refused.ensures.reply)

pub returns-in-None-clause-told : goal.returns-in-None-clause-told
returns-in-None-clause-told g c = rw c.refused.ensures.reply tt

pub returns-in-None-clause-limits : goal.returns-in-None-clause-limits
returns-in-None-clause-limits g c = rw c.refused.ensures.reply tt

pub returns-in-None-clause-shows : goal.returns-in-None-clause-shows
returns-in-None-clause-shows g c = refl

pub returns-in-None-clause-goes : goal.returns-in-None-clause-goes
returns-in-None-clause-goes g c = g.met.S.Store.goes_on_refl _ Going.reads
