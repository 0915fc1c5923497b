use Rattle.std.proofs.Common.{Option, refl, subst, sym}
use Rattle.store.specs.View.{seen_by}
use Rattle.cursors.specs.declared.cursor.OpenCursor.{OpenCursor}
use Rattle.sessions.specs.Opened.{GivesRows}
use Rattle.sessions.proofs.query_calls.taken_from.Goals as goal

pub returns-in-Ok-clause-gives : goal.returns-in-Ok-clause-gives
returns-in-Ok-clause-gives g c = λ sound fits. (c.in-Ok.rows, refl, c.in-Ok.ensures.rows sound fits, c.in-Ok.ensures.fits sound fits)

pub returns-in-Ok-clause-told : goal.returns-in-Ok-clause-told
returns-in-Ok-clause-told g c = c.in-Ok.ensures.most

pub returns-in-Err-clause-gives : goal.returns-in-Err-clause-gives
returns-in-Err-clause-gives g c = λ sound fits.
    subst (λ (left : Option OpenCursor). GivesRows c.args.cursor c.args.count left c.refused.result.reply (seen_by (g.S.Store.shows c.args.store.now) c.args.view)) (sym c.refused.ensures.left)
    (c.in-Err.refusal, c.refused.ensures.reply, c.in-Err.ensures.refused sound fits)

pub returns-in-Err-clause-told : goal.returns-in-Err-clause-told
returns-in-Err-clause-told g c = rw c.refused.ensures.reply tt

pub returns-in-Err-clause-device : goal.returns-in-Err-clause-device
returns-in-Err-clause-device g c = rw c.refused.ensures.reply c.in-Err.ensures.device

pub returns-in-Err-clause-limits : goal.returns-in-Err-clause-limits
returns-in-Err-clause-limits g c = rw c.refused.ensures.reply c.in-Err.ensures.limits

pub returns-in-Ok-clause-device : goal.returns-in-Ok-clause-device
returns-in-Ok-clause-device g c = tt

pub returns-in-Ok-clause-limits : goal.returns-in-Ok-clause-limits
returns-in-Ok-clause-limits g c = tt

pub returns-in-Ok-clause-shows : goal.returns-in-Ok-clause-shows
returns-in-Ok-clause-shows g c = c.rows_seen.ensures.shows

pub returns-in-Ok-clause-goes : goal.returns-in-Ok-clause-goes
returns-in-Ok-clause-goes g c = c.rows_seen.ensures.goes

pub returns-in-Err-clause-shows : goal.returns-in-Err-clause-shows
returns-in-Err-clause-shows g c = c.rows_seen.ensures.shows

pub returns-in-Err-clause-goes : goal.returns-in-Err-clause-goes
returns-in-Err-clause-goes g c = c.rows_seen.ensures.goes
