use Rattle.std.proofs.Common.{◌≡◌, ◌≢◌, true, false, [], ◌∷◌, refl, sym, ap, subst, ◌∙◌, inl}
use Rattle.session_definitions.specs.World.{is_session}
use Rattle.store.specs.Going.{Going}
use Rattle.sessions.specs.Limits.{CallReaches, StatementReaches}
use Rattle.refusals.specs.declared.refusal.Refusal.TheVariants.{SerializationFailure}
use Rattle.statement_definitions.specs.Reading.{IsRead}
use Rattle.store.specs.Stored.{SameButMark}
use Rattle.sessions.specs.Kinds.{IsFetchText, is_change, is_declare, is_of_transaction}
use Rattle.sessions.specs.Numbers.{kept_of}
use Rattle.ast.specs.declared.statement.Statement.TheVariants as asks
use Rattle.sessions.proofs.ExplainSteps.{another}
use Rattle.sessions.proofs.Devices.{never_counts, never_read}
use Rattle.sessions.proofs.Going.{commits_as_writer}
use Rattle.sessions.proofs.Holding.{fits_same, gone_fits}
use Rattle.sessions.proofs.Kept.{Keeps, no_fetch_text, refused_alike}
use Rattle.sessions.proofs.Limits.{none_told, tells_none, told_wider, unread_tells}
use Rattle.sessions.proofs.Unread.{refuses_text}
use Rattle.transactions.proofs.Orders.{same}
use Rattle.ast.specs.declared.statement.Statement.{Statement}
use Rattle.transactions.specs.Refused.{IfRefused, TellsReached}
use Rattle.sessions.specs.ToldLimits.{IsActive, IsSaidBetween, StatementTells}
use Rattle.sessions.proofs.ToldLimits.{is_no_change}
use Rattle.sessions.proofs.Damage.{is_of_none, memory_tells}
use Rattle.sessions.proofs.calling.call.Goals as goal

-- ---- ROLLBACK

pub returns-then-is_rollback-clause-leaves : goal.returns-then-is_rollback-clause-leaves
returns-then-is_rollback-clause-leaves g c = λ rules are sound order holds good.
    let is = (rw c.if-is_rollback.true at c.is_rollback.ensures).0 refl in
    record {
      moves = c.roll_back.ensures.moves rules c.args.text.now is.0 (kept_of c.args.slot.now) is.1 order;
      fits = gone_fits (g.S.Store.shows c.roll_back.new.store) c.roll_back.new.writer c.args.session c.args.slot.now.cursors c.roll_back.ensures.gone;
    }

pub returns-then-is_rollback-clause-explained : goal.returns-then-is_rollback-clause-explained
returns-then-is_rollback-clause-explained g c = λ x read sound. rw c.roll_back.ensures.done tt

pub returns-then-is_rollback-clause-device : goal.returns-then-is_rollback-clause-device
returns-then-is_rollback-clause-device g c = rw c.roll_back.ensures.done tt

pub returns-then-is_rollback-clause-limits : goal.returns-then-is_rollback-clause-limits
returns-then-is_rollback-clause-limits g c = rw c.roll_back.ensures.done tt

pub returns-then-is_rollback-clause-goes : goal.returns-then-is_rollback-clause-goes
returns-then-is_rollback-clause-goes g c =
    g.met.S.Store.goes_on_trans _ _ _ Going.keeps (Going.writes ((g.S.Store.shows c.args.store.now).working ∷ [])) c.roll_back.ensures.goes (g.met.S.Store.goes_on_refl _ (Going.writes ((g.S.Store.shows c.args.store.now).working ∷ [])))

pub returns-then-is_rollback-clause-commits : goal.returns-then-is_rollback-clause-commits
returns-then-is_rollback-clause-commits g c = inl (g.met.S.Store.goes_on_trans _ _ _ Going.keeps Going.changes c.roll_back.ensures.goes (g.met.S.Store.goes_on_refl _ Going.changes))

pub returns-then-is_rollback-clause-kept : goal.returns-then-is_rollback-clause-kept
returns-then-is_rollback-clause-kept g c = rw c.roll_back.ensures.done tt

pub returns-then-is_rollback-clause-idle : goal.returns-then-is_rollback-clause-idle
returns-then-is_rollback-clause-idle g c = λ unchanged. (g.met.S.Store.goes_on_goes _ _ _ c.roll_back.ensures.goes).stays.writes

-- ---- DECLARE

pub returns-in-Ok-declared_in-clause-leaves : goal.returns-in-Ok-declared_in-clause-leaves
returns-in-Ok-declared_in-clause-leaves g c = λ rules are sound order holds good.
    c.declare.ensures.leaves rules c.args.text.now (g.S.Store.shows c.args.store.now) c.args.writer.now c.args.session (subst (IsRead c.args.text.now) c.in-Ok-declared_in.ensures c.in-Ok.ensures.read)
    (λ is. let bad : false ≡ true = (rw c.if-is_rollback.false at c.is_rollback.ensures).1 is in cc) order holds

pub returns-in-Ok-declared_in-clause-explained : goal.returns-in-Ok-declared_in-clause-explained
returns-in-Ok-declared_in-clause-explained g c = λ x read sound.
    another _ c.in-Ok.statement _ x c.in-Ok-declared_in.ensures refl (c.in-Ok.ensures.only (asks.Explain x) read)

pub returns-in-Ok-declared_in-clause-device : goal.returns-in-Ok-declared_in-clause-device
returns-in-Ok-declared_in-clause-device g c = never_counts c.declare.result _ _ c.declare.ensures.device

pub returns-in-Ok-declared_in-clause-limits : goal.returns-in-Ok-declared_in-clause-limits
returns-in-Ok-declared_in-clause-limits g c = none_told (CallReaches (g.S.Store.counted c.args.store.now) (g.S.Store.shows c.args.store.now).commits c.args.text.now) c.declare.result c.declare.ensures.limits

pub returns-in-Ok-declared_in-clause-commits : goal.returns-in-Ok-declared_in-clause-commits
returns-in-Ok-declared_in-clause-commits g c = inl (g.met.S.Store.goes_on_refl _ Going.changes)

pub returns-in-Ok-declared_in-clause-kept : goal.returns-in-Ok-declared_in-clause-kept
returns-in-Ok-declared_in-clause-kept g c =
    refused_alike c.declare.result (λ refusal. kept_of c.declare.new.slot ≡ kept_of c.args.slot.now)
    (λ refusal. refusal ≢ SerializationFailure → (IsFetchText c.args.text.now → ⊥) → SameButMark (g.S.Store.shows c.args.store.now) (g.S.Store.shows c.args.store.now) × (c.args.writer.now ≡ c.args.writer.now) × (kept_of c.declare.new.slot ≡ kept_of c.args.slot.now))
    (λ refusal k other fetch. (same (g.S.Store.shows c.args.store.now) (g.S.Store.shows c.args.store.now) refl, refl, k)) c.declare.ensures.kept

-- ---- another statement

pub returns-in-Err-declared_in-clause-leaves : goal.returns-in-Err-declared_in-clause-leaves
returns-in-Err-declared_in-clause-leaves g c = λ rules are sound order holds good.
    c.carry_out-reply.ensures.leaves rules c.args.text.now are (subst (IsRead c.args.text.now) (sym c.in-Err-declared_in.ensures.0) c.in-Ok.ensures.read) (ap is_declare c.in-Err-declared_in.ensures.0 ∙ c.in-Err-declared_in.ensures.1)
    (λ is. let bad : false ≡ true = (rw c.if-is_rollback.false at c.is_rollback.ensures).1 is in cc) sound order holds good

pub returns-in-Err-declared_in-clause-explained : goal.returns-in-Err-declared_in-clause-explained
returns-in-Err-declared_in-clause-explained g c = λ x read sound.
    c.carry_out-reply.ensures.explained x (c.in-Err-declared_in.ensures.0 ∙ c.in-Ok.ensures.only (asks.Explain x) read) sound

pub returns-in-Err-declared_in-clause-limits : goal.returns-in-Err-declared_in-clause-limits
returns-in-Err-declared_in-clause-limits g c =
    told_wider (StatementReaches (g.S.Store.counted c.args.store.now) (g.S.Store.shows c.args.store.now).commits c.in-Err-declared_in.statement) (CallReaches (g.S.Store.counted c.args.store.now) (g.S.Store.shows c.args.store.now).commits c.args.text.now)
    (λ which reaches. (c.in-Err-declared_in.statement, (subst (IsRead c.args.text.now) (sym c.in-Err-declared_in.ensures.0) c.in-Ok.ensures.read), reaches)) c.carry_out-reply.result c.carry_out-reply.ensures.limits

pub returns-in-Err-declared_in-clause-commits : goal.returns-in-Err-declared_in-clause-commits
returns-in-Err-declared_in-clause-commits g c =
    commits_as_writer (g.S.Store.goes_on c.args.store.now c.carry_out-reply.new.store Going.changes) c.args.text.now c.in-Err-declared_in.statement (is_session c.args.session c.args.writer.now)
    (subst (IsRead c.args.text.now) (sym c.in-Err-declared_in.ensures.0) c.in-Ok.ensures.read) c.carry_out-reply.ensures.commits

pub returns-in-Err-declared_in-clause-kept : goal.returns-in-Err-declared_in-clause-kept
returns-in-Err-declared_in-clause-kept g c =
    refused_alike c.carry_out-reply.result
    (Keeps c.in-Err-declared_in.statement (g.S.Store.shows c.args.store.now) c.args.writer.now (kept_of c.args.slot.now) (g.S.Store.shows c.carry_out-reply.new.store) c.carry_out-reply.new.writer (kept_of c.carry_out-reply.new.slot))
    (λ refusal. refusal ≢ SerializationFailure → (IsFetchText c.args.text.now → ⊥) → SameButMark (g.S.Store.shows c.args.store.now) (g.S.Store.shows c.carry_out-reply.new.store) × (c.carry_out-reply.new.writer ≡ c.args.writer.now) × (kept_of c.carry_out-reply.new.slot ≡ kept_of c.args.slot.now))
    (λ refusal k other fetch. k other (no_fetch_text c.in-Err-declared_in.statement c.args.text.now (subst (IsRead c.args.text.now) (sym c.in-Err-declared_in.ensures.0) c.in-Ok.ensures.read) fetch)) c.carry_out-reply.ensures.kept

-- ---- what is no statement

pub returns-in-Err-clause-leaves : goal.returns-in-Err-clause-leaves
returns-in-Err-clause-leaves g c = λ rules are sound order holds good. record {
  moves = refuses_text rules (g.S.Store.shows c.args.store.now) _ _ (kept_of c.args.slot.now) _ _
      (λ is. let bad : false ≡ true = (rw c.if-is_rollback.false at c.is_rollback.ensures).1 is in cc) c.in-Err.ensures.unread order;
  fits = fits_same (g.S.Store.shows c.args.store.now) (g.S.Store.shows c.args.store.now) c.args.writer.now c.args.writer.now c.args.session c.args.slot.now.cursors
      (same (g.S.Store.shows c.args.store.now) (g.S.Store.shows c.args.store.now) refl) refl holds;
}

pub returns-in-Err-clause-device : goal.returns-in-Err-clause-device
returns-in-Err-clause-device g c = λ is. absurd (never_read c.args.text.now c.in-Err.refusal c.in-Err.ensures.unread is)

pub returns-in-Err-clause-limits : goal.returns-in-Err-clause-limits
returns-in-Err-clause-limits g c = tells_none (CallReaches (g.S.Store.counted c.args.store.now) (g.S.Store.shows c.args.store.now).commits c.args.text.now) c.in-Err.refusal (unread_tells c.args.text.now c.in-Err.refusal c.in-Err.ensures.unread)

pub returns-in-Err-clause-commits : goal.returns-in-Err-clause-commits
returns-in-Err-clause-commits g c = inl (g.met.S.Store.goes_on_refl _ Going.changes)

pub returns-in-Err-clause-kept : goal.returns-in-Err-clause-kept
returns-in-Err-clause-kept g c = λ other fetch. (same (g.S.Store.shows c.args.store.now) (g.S.Store.shows c.args.store.now) refl, refl, refl)

pub returns-then-is_rollback-clause-rolled_back : goal.returns-then-is_rollback-clause-rolled_back
returns-then-is_rollback-clause-rolled_back g c = λ is. c.roll_back.ensures.done

pub returns-in-Ok-declared_in-clause-rolled_back : goal.returns-in-Ok-declared_in-clause-rolled_back
returns-in-Ok-declared_in-clause-rolled_back g c = λ is. let bad : false ≡ true = (rw c.if-is_rollback.false at c.is_rollback.ensures).1 is in absurd (cc)

pub returns-in-Ok-declared_in-clause-idle : goal.returns-in-Ok-declared_in-clause-idle
returns-in-Ok-declared_in-clause-idle g c = λ unchanged. refl

pub returns-in-Ok-declared_in-clause-goes : goal.returns-in-Ok-declared_in-clause-goes
returns-in-Ok-declared_in-clause-goes g c = g.met.S.Store.goes_on_refl _ (Going.writes ((g.S.Store.shows c.args.store.now).working ∷ []))

pub returns-in-Err-declared_in-clause-device : goal.returns-in-Err-declared_in-clause-device
returns-in-Err-declared_in-clause-device g c = c.carry_out-reply.ensures.device

pub returns-in-Err-declared_in-clause-rolled_back : goal.returns-in-Err-declared_in-clause-rolled_back
returns-in-Err-declared_in-clause-rolled_back g c = λ is. let bad : false ≡ true = (rw c.if-is_rollback.false at c.is_rollback.ensures).1 is in absurd (cc)

pub returns-in-Err-declared_in-clause-idle : goal.returns-in-Err-declared_in-clause-idle
returns-in-Err-declared_in-clause-idle g c = c.carry_out-reply.ensures.idle

pub returns-in-Err-declared_in-clause-goes : goal.returns-in-Err-declared_in-clause-goes
returns-in-Err-declared_in-clause-goes g c = c.carry_out-reply.ensures.goes

pub returns-in-Err-clause-explained : goal.returns-in-Err-clause-explained
returns-in-Err-clause-explained g c = λ x read sound. tt

pub returns-in-Err-clause-rolled_back : goal.returns-in-Err-clause-rolled_back
returns-in-Err-clause-rolled_back g c = λ is. let bad : false ≡ true = (rw c.if-is_rollback.false at c.is_rollback.ensures).1 is in absurd (cc)

pub returns-in-Err-clause-idle : goal.returns-in-Err-clause-idle
returns-in-Err-clause-idle g c = λ unchanged. refl

pub returns-in-Err-clause-goes : goal.returns-in-Err-clause-goes
returns-in-Err-clause-goes g c = g.met.S.Store.goes_on_refl _ (Going.writes ((g.S.Store.shows c.args.store.now).working ∷ []))

pub returns-then-is_rollback-clause-reached : goal.returns-then-is_rollback-clause-reached
returns-then-is_rollback-clause-reached g c = λ x read is. rw c.roll_back.ensures.done tt

pub returns-in-Ok-declared_in-clause-reached : goal.returns-in-Ok-declared_in-clause-reached
returns-in-Ok-declared_in-clause-reached g c = λ x read is. is_no_change _ x _ (sym (c.in-Ok.ensures.only x read) ∙ c.in-Ok-declared_in.ensures) refl is

pub returns-in-Err-declared_in-clause-reached : goal.returns-in-Err-declared_in-clause-reached
returns-in-Err-declared_in-clause-reached g c = λ x read is.
    let same_text : c.in-Err-declared_in.statement ≡ x = c.in-Err-declared_in.ensures.0 ∙ c.in-Ok.ensures.only x read in
    subst
    (λ (y : Statement). IfRefused c.carry_out-reply.result (IsSaidBetween g.S.Store.goes_on (IsActive (g.S.Store.shows c.args.store.now) c.args.session) c.args.store.now c.carry_out-reply.new.store (λ middle. TellsReached (StatementTells (g.S.Store.counted middle) (g.S.Store.is_sound c.args.store.now) (g.S.Store.shows c.args.store.now).working y))))
    same_text (c.carry_out-reply.ensures.reached (ap is_change same_text ∙ is))

pub returns-in-Err-clause-reached : goal.returns-in-Err-clause-reached
returns-in-Err-clause-reached g c = λ x read is. record {
  middle = c.args.store.now;
  before = g.met.S.Store.goes_on_refl _ Going.changes;
  behind = g.met.S.Store.goes_on_refl _ Going.keeps;
  at_end = λ active. refl;
  said = tells_none (StatementTells (g.S.Store.counted c.args.store.now) (g.S.Store.is_sound c.args.store.now) (g.S.Store.shows c.args.store.now).working x) c.in-Err.refusal
      (unread_tells c.args.text.now c.in-Err.refusal c.in-Err.ensures.unread);
}

pub returns-then-is_rollback-clause-damage : goal.returns-then-is_rollback-clause-damage
returns-then-is_rollback-clause-damage g c = λ x read of. rw c.roll_back.ensures.done c.roll_back.ensures.damage

pub returns-in-Ok-declared_in-clause-damage : goal.returns-in-Ok-declared_in-clause-damage
returns-in-Ok-declared_in-clause-damage g c = λ x read of. is_of_none _ x _ (sym (c.in-Ok.ensures.only x read) ∙ c.in-Ok-declared_in.ensures) refl of

pub returns-in-Err-declared_in-clause-damage : goal.returns-in-Err-declared_in-clause-damage
returns-in-Err-declared_in-clause-damage g c = λ x read of.
    c.carry_out-reply.ensures.damage (ap is_of_transaction (c.in-Err-declared_in.ensures.0 ∙ c.in-Ok.ensures.only x read) ∙ of)

pub returns-in-Err-clause-damage : goal.returns-in-Err-clause-damage
returns-in-Err-clause-damage g c = λ x read of. memory_tells c.in-Err.refusal (g.S.Store.damaged c.args.store.now) (c.in-Err.ensures.only x read)
