use Rattle.std.proofs.Common.{◌≡◌, false, refl, ap, subst}
use Rattle.statement_definitions.specs.Reading.{IsRead}
use Rattle.store.specs.Going.{Going}
use Rattle.store.specs.Stored.{SameButMark}
use Rattle.transactions.proofs.Orders.{same}
use Rattle.sessions.specs.Kinds.{is_fetch}
use Rattle.sessions.specs.Numbers.{kept_of}
use Rattle.sessions.proofs.Devices.{never_counts}
use Rattle.sessions.proofs.Kept.{all_refused, fetch_free, refused_alike}
use Rattle.sessions.proofs.Statements.{no_cursor}
use Rattle.sessions.proofs.cursor_calls.cursor_call.Goals as goal

pub returns-in-OpenCursor-clause-leaves : goal.returns-in-OpenCursor-clause-leaves
returns-in-OpenCursor-clause-leaves g c = λ rules text are read of declares other sound order holds good.
    c.open.ensures.leaves rules text are (subst (IsRead text) c.in-OpenCursor.is read) other sound order holds good

pub returns-in-Fetch-clause-leaves : goal.returns-in-Fetch-clause-leaves
returns-in-Fetch-clause-leaves g c = λ rules text are read of declares other sound order holds good.
    c.fetch.ensures.leaves rules text (subst (IsRead text) c.in-Fetch.is read) sound order holds

pub returns-in-CloseCursor-clause-leaves : goal.returns-in-CloseCursor-clause-leaves
returns-in-CloseCursor-clause-leaves g c = λ rules text are read of declares other sound order holds good.
    c.close.ensures.leaves rules text (g.S.Store.shows c.args.store.now) c.args.writer c.args.session (subst (IsRead text) c.in-CloseCursor.is read) order holds

pub returns-in-Fetch-clause-device : goal.returns-in-Fetch-clause-device
returns-in-Fetch-clause-device g c = c.fetch.ensures.device

pub returns-in-Fetch-clause-goes : goal.returns-in-Fetch-clause-goes
returns-in-Fetch-clause-goes g c = g.met.S.Store.goes_on_trans _ _ _ Going.keeps Going.reads (g.met.S.Store.goes_on_refl _ Going.keeps) c.fetch.ensures.goes

pub returns-in-CloseCursor-clause-device : goal.returns-in-CloseCursor-clause-device
returns-in-CloseCursor-clause-device g c = never_counts c.close.result _ _ c.close.ensures.device

pub returns-in-OpenCursor-clause-kept : goal.returns-in-OpenCursor-clause-kept
returns-in-OpenCursor-clause-kept g c =
    refused_alike c.open.result (λ refusal. SameButMark (g.S.Store.shows c.args.store.now) (g.S.Store.shows c.open.new.store) × (c.open.new.slot ≡ c.args.slot.now))
    (λ refusal. is_fetch c.args.statement.now ≡ false → SameButMark (g.S.Store.shows c.args.store.now) (g.S.Store.shows c.open.new.store) × (kept_of c.open.new.slot ≡ kept_of c.args.slot.now))
    (λ refusal k fetch. (k.0, ap kept_of k.1)) c.open.ensures.kept

pub returns-in-Fetch-clause-kept : goal.returns-in-Fetch-clause-kept
returns-in-Fetch-clause-kept g c = all_refused c.fetch.result _ (λ refusal. fetch_free c.args.statement.now c.in-Fetch.name c.in-Fetch.is)

pub returns-in-CloseCursor-clause-kept : goal.returns-in-CloseCursor-clause-kept
returns-in-CloseCursor-clause-kept g c =
    refused_alike c.close.result (λ refusal. kept_of c.close.new.slot ≡ kept_of c.args.slot.now)
    (λ refusal. is_fetch c.args.statement.now ≡ false → SameButMark (g.S.Store.shows c.args.store.now) (g.S.Store.shows c.args.store.now) × (kept_of c.close.new.slot ≡ kept_of c.args.slot.now))
    (λ refusal k fetch. (same (g.S.Store.shows c.args.store.now) (g.S.Store.shows c.args.store.now) refl, k)) c.close.ensures.kept

pub returns-in_default-clause-leaves : goal.returns-in_default-clause-leaves
returns-in_default-clause-leaves g c = λ rules text are read of declares other sound order holds good.
    absurd (no_cursor c.args.statement.now c.in_default.not-OpenCursor c.in_default.not-Fetch c.in_default.not-CloseCursor of declares)

pub returns-in_default-clause-kept : goal.returns-in_default-clause-kept
returns-in_default-clause-kept g c = λ fetch. (same (g.S.Store.shows c.args.store.now) (g.S.Store.shows c.args.store.now) refl, refl)

pub returns-in-OpenCursor-clause-device : goal.returns-in-OpenCursor-clause-device
returns-in-OpenCursor-clause-device g c = c.open.ensures.device

pub returns-in-OpenCursor-clause-limits : goal.returns-in-OpenCursor-clause-limits
returns-in-OpenCursor-clause-limits g c = c.open.ensures.limits

pub returns-in-OpenCursor-clause-goes : goal.returns-in-OpenCursor-clause-goes
returns-in-OpenCursor-clause-goes g c = c.open.ensures.goes

pub returns-in-Fetch-clause-limits : goal.returns-in-Fetch-clause-limits
returns-in-Fetch-clause-limits g c = c.fetch.ensures.limits

pub returns-in-CloseCursor-clause-limits : goal.returns-in-CloseCursor-clause-limits
returns-in-CloseCursor-clause-limits g c = c.close.ensures.limits

pub returns-in-CloseCursor-clause-goes : goal.returns-in-CloseCursor-clause-goes
returns-in-CloseCursor-clause-goes g c = g.met.S.Store.goes_on_refl _ Going.keeps

pub returns-in_default-clause-device : goal.returns-in_default-clause-device
returns-in_default-clause-device g c = λ is. absurd (cc)

pub returns-in_default-clause-limits : goal.returns-in_default-clause-limits
returns-in_default-clause-limits g c = tt

pub returns-in_default-clause-goes : goal.returns-in_default-clause-goes
returns-in_default-clause-goes g c = g.met.S.Store.goes_on_refl _ Going.keeps
