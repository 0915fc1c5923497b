use Rattle.std.proofs.Common.{◌≡◌, ◌≢◌, false, [], ◌∷◌, sym, ap, subst, inl, refl}
use Rattle.session_definitions.specs.World.{is_session}
use Rattle.refusals.specs.declared.refusal.Refusal.TheVariants.{SerializationFailure}
use Rattle.store.specs.Going.{Going}
use Rattle.ast.specs.declared.statement.Statement.TheVariants as asks
use Rattle.store.specs.Errors.{CommittingReaches}
use Rattle.transactions.specs.Refused.{IfRefused, TellsReached}
use Rattle.sessions.specs.Limits.{StatementReaches}
use Rattle.statement_definitions.specs.Reading.{IsRead}
use Rattle.sessions.proofs.Devices.{counts_state}
use Rattle.sessions.proofs.Going.{commit_goes, commit_of_writer}
use Rattle.sessions.proofs.Limits.{none_told, state_told, told_of_change, told_wider}
use Rattle.sessions.proofs.ExplainSteps.{another, no_change, no_cursor_call}
use Rattle.ast.specs.declared.statement.Statement.{Statement}
use Rattle.sessions.specs.Kinds.{is_fetch}
use Rattle.sessions.specs.Numbers.{kept_of}
use Rattle.sessions.proofs.Holding.{changed_fits, closed_in, ended_fits, fits_same, gone_fits, queried_fits}
use Rattle.sessions.proofs.Kept.{Keeps, keeps_all, refused_alike}
use Rattle.store.specs.Stored.{SameButMark}
use Rattle.transactions.specs.Shown.{with_mode}
use Rattle.transactions.proofs.Orders.{same}
use Rattle.sessions.proofs.ToldLimits.{cursor_call_is_none, is_no_change}
use Rattle.sessions.proofs.Damage.{change_is_of_none, cursor_is_of_none, is_of_none, state_tells}
use Rattle.sessions.proofs.calling.carry_out.Goals as goal

pub returns-in-Query-clause-leaves : goal.returns-in-Query-clause-leaves
returns-in-Query-clause-leaves g c = λ rules text are read declares other sound order holds good.
    let is = c.in-Query.ensures in
    record {
      moves = c.query.ensures.moves rules text is.0 (kept_of c.args.slot.now) are is.1 (subst (IsRead text) is.1 read) other sound order
          (closed_in (g.S.Store.shows c.args.store.now) c.args.writer.now c.args.session _ c.args.slot.now holds) good;
      fits = queried_fits (g.S.Store.shows c.args.store.now) (g.S.Store.shows c.query.new.store) c.args.writer.now c.args.session c.args.slot.now.cursors c.query.ensures.left holds;
    }

pub returns-in-Change-clause-leaves : goal.returns-in-Change-clause-leaves
returns-in-Change-clause-leaves g c = λ rules text are read declares other sound order holds good. record {
  moves = c.change.ensures.moves rules text are c.in-Change.ensures read other sound order
      (closed_in (g.S.Store.shows c.args.store.now) c.args.writer.now c.args.session _ c.args.slot.now holds) good;
  fits = changed_fits (g.S.Store.shows c.args.store.now) (g.S.Store.shows c.change.new.store) c.args.writer.now c.change.new.writer c.args.session c.args.slot.now.cursors c.change.ensures.left holds;
}

pub returns-in-Commit-clause-leaves : goal.returns-in-Commit-clause-leaves
returns-in-Commit-clause-leaves g c = λ rules text are read declares other sound order holds good.
    let is = c.in-Commit.ensures in
    record {
      moves = c.commit.ensures.moves rules text is.0 (kept_of c.args.slot.now) (subst (IsRead text) is.1 read) other sound order;
      fits = ended_fits (g.S.Store.shows c.args.store.now) (g.S.Store.shows c.commit.new.store) c.args.writer.now c.commit.new.writer c.args.session c.args.slot.now.cursors c.commit.ensures.left holds;
    }

pub returns-in-Rollback-clause-leaves : goal.returns-in-Rollback-clause-leaves
returns-in-Rollback-clause-leaves g c = λ rules text are read declares other sound order holds good.
    let is = c.in-Rollback.ensures in
    record {
      moves = c.roll_back.ensures.moves rules text is.0 (kept_of c.args.slot.now) (subst (IsRead text) is.1 read) order;
      fits = gone_fits (g.S.Store.shows c.roll_back.new.store) c.roll_back.new.writer c.args.session c.args.slot.now.cursors c.roll_back.ensures.gone;
    }

pub returns-in-SetTransaction-clause-leaves : goal.returns-in-SetTransaction-clause-leaves
returns-in-SetTransaction-clause-leaves g c = λ rules text are read declares other sound order holds good. record {
  moves = c.set_mode.ensures.moves rules text (kept_of c.args.slot.now) (subst (IsRead text) c.in-SetTransaction.ensures read) order;
  fits = fits_same (g.S.Store.shows c.args.store.now) (g.S.Store.shows c.args.store.now) c.args.writer.now c.args.writer.now c.args.session c.args.slot.now.cursors
      (same (g.S.Store.shows c.args.store.now) (g.S.Store.shows c.args.store.now) refl) refl holds;
}

pub returns-in-Cursor-clause-leaves : goal.returns-in-Cursor-clause-leaves
returns-in-Cursor-clause-leaves g c = λ rules text are read declares other sound order holds good.
    c.cursor_call.ensures.leaves rules text are read c.in-Cursor.ensures declares other sound order holds good

pub returns-in-Explain-clause-leaves : goal.returns-in-Explain-clause-leaves
returns-in-Explain-clause-leaves g c = λ rules text are read declares other sound order holds good.
    let is = c.in-Explain.ensures in
    record {
      moves = c.explain_query.ensures.moves rules text is.0 (kept_of c.args.slot.now) are is.1 (subst (IsRead text) is.1 read) other sound order
          (closed_in (g.S.Store.shows c.args.store.now) c.args.writer.now c.args.session _ c.args.slot.now holds);
      fits = queried_fits (g.S.Store.shows c.args.store.now) (g.S.Store.shows c.explain_query.new.store) c.args.writer.now c.args.session c.args.slot.now.cursors c.explain_query.ensures.left holds;
    }

pub returns-in-Explain-clause-explained : goal.returns-in-Explain-clause-explained
returns-in-Explain-clause-explained g c = c.explain_query.ensures.explained

pub returns-in-Query-clause-explained : goal.returns-in-Query-clause-explained
returns-in-Query-clause-explained g c = λ x is. another _ c.args.statement.now _ x c.in-Query.ensures.1 refl is

pub returns-in-Change-clause-explained : goal.returns-in-Change-clause-explained
returns-in-Change-clause-explained g c = λ x is. no_change _ c.args.statement.now x c.in-Change.ensures is

pub returns-in-Commit-clause-explained : goal.returns-in-Commit-clause-explained
returns-in-Commit-clause-explained g c = λ x is. another _ c.args.statement.now _ x c.in-Commit.ensures.1 refl is

pub returns-in-Rollback-clause-explained : goal.returns-in-Rollback-clause-explained
returns-in-Rollback-clause-explained g c = λ x is. another _ c.args.statement.now _ x c.in-Rollback.ensures.1 refl is

pub returns-in-SetTransaction-clause-explained : goal.returns-in-SetTransaction-clause-explained
returns-in-SetTransaction-clause-explained g c = λ x is. another _ c.args.statement.now _ x c.in-SetTransaction.ensures refl is

pub returns-in-Cursor-clause-explained : goal.returns-in-Cursor-clause-explained
returns-in-Cursor-clause-explained g c = λ x is. no_cursor_call _ c.args.statement.now x c.in-Cursor.ensures is

pub returns-in-Rollback-clause-device : goal.returns-in-Rollback-clause-device
returns-in-Rollback-clause-device g c = rw c.roll_back.ensures.done tt

pub returns-in-SetTransaction-clause-device : goal.returns-in-SetTransaction-clause-device
returns-in-SetTransaction-clause-device g c = counts_state c.set_mode.result _ _ c.set_mode.ensures.refused

pub returns-in-Query-clause-limits : goal.returns-in-Query-clause-limits
returns-in-Query-clause-limits g c = none_told (StatementReaches (g.S.Store.counted c.args.store.now) (g.S.Store.shows c.args.store.now).commits c.args.statement.now) c.query.result c.query.ensures.limits

pub returns-in-Explain-clause-limits : goal.returns-in-Explain-clause-limits
returns-in-Explain-clause-limits g c = none_told (StatementReaches (g.S.Store.counted c.args.store.now) (g.S.Store.shows c.args.store.now).commits c.args.statement.now) c.explain_query.result c.explain_query.ensures.limits

pub returns-in-Cursor-clause-limits : goal.returns-in-Cursor-clause-limits
returns-in-Cursor-clause-limits g c = none_told (StatementReaches (g.S.Store.counted c.args.store.now) (g.S.Store.shows c.args.store.now).commits c.args.statement.now) c.cursor_call.result c.cursor_call.ensures.limits

pub returns-in-Change-clause-limits : goal.returns-in-Change-clause-limits
returns-in-Change-clause-limits g c = told_of_change (g.S.Store.counted c.args.store.now) (g.S.Store.shows c.args.store.now).commits c.args.statement.now c.in-Change.ensures c.change.result

pub returns-in-Commit-clause-limits : goal.returns-in-Commit-clause-limits
returns-in-Commit-clause-limits g c =
    let is = c.in-Commit.ensures in
    subst (λ (x : Statement). IfRefused c.commit.result (TellsReached (StatementReaches (g.S.Store.counted c.args.store.now) (g.S.Store.shows c.args.store.now).commits x))) (sym is.1)
    (told_wider (CommittingReaches (g.S.Store.counted c.args.store.now) (g.S.Store.shows c.args.store.now).commits) (StatementReaches (g.S.Store.counted c.args.store.now) (g.S.Store.shows c.args.store.now).commits (asks.Commit is.0)) (λ which reaches. reaches) c.commit.result c.commit.ensures.limits)

pub returns-in-Rollback-clause-limits : goal.returns-in-Rollback-clause-limits
returns-in-Rollback-clause-limits g c = rw c.roll_back.ensures.done tt

pub returns-in-SetTransaction-clause-limits : goal.returns-in-SetTransaction-clause-limits
returns-in-SetTransaction-clause-limits g c = state_told (StatementReaches (g.S.Store.counted c.args.store.now) (g.S.Store.shows c.args.store.now).commits c.args.statement.now) c.set_mode.result c.set_mode.ensures.refused

pub returns-in-Query-clause-goes : goal.returns-in-Query-clause-goes
returns-in-Query-clause-goes g c = g.met.S.Store.goes_on_trans _ _ _ Going.keeps (Going.writes ((g.S.Store.shows c.args.store.now).working ∷ [])) c.query.ensures.goes (g.met.S.Store.goes_on_refl _ (Going.writes ((g.S.Store.shows c.args.store.now).working ∷ [])))

pub returns-in-Query-clause-commits : goal.returns-in-Query-clause-commits
returns-in-Query-clause-commits g c = inl (g.met.S.Store.goes_on_trans _ _ _ Going.keeps Going.changes c.query.ensures.goes (g.met.S.Store.goes_on_refl _ Going.changes))

pub returns-in-Cursor-clause-goes : goal.returns-in-Cursor-clause-goes
returns-in-Cursor-clause-goes g c = g.met.S.Store.goes_on_trans _ _ _ Going.keeps (Going.writes ((g.S.Store.shows c.args.store.now).working ∷ [])) c.cursor_call.ensures.goes (g.met.S.Store.goes_on_refl _ (Going.writes ((g.S.Store.shows c.args.store.now).working ∷ [])))

pub returns-in-Cursor-clause-commits : goal.returns-in-Cursor-clause-commits
returns-in-Cursor-clause-commits g c = inl (g.met.S.Store.goes_on_trans _ _ _ Going.keeps Going.changes c.cursor_call.ensures.goes (g.met.S.Store.goes_on_refl _ Going.changes))

pub returns-in-Change-clause-goes : goal.returns-in-Change-clause-goes
returns-in-Change-clause-goes g c = g.met.S.Store.goes_on_trans _ _ _ Going.changes (Going.writes ((g.S.Store.shows c.args.store.now).working ∷ [])) c.change.ensures.goes (g.met.S.Store.goes_on_refl _ (Going.writes ((g.S.Store.shows c.args.store.now).working ∷ [])))

pub returns-in-Change-clause-commits : goal.returns-in-Change-clause-commits
returns-in-Change-clause-commits g c = inl (c.change.ensures.goes)

pub returns-in-Rollback-clause-goes : goal.returns-in-Rollback-clause-goes
returns-in-Rollback-clause-goes g c = g.met.S.Store.goes_on_trans _ _ _ Going.keeps (Going.writes ((g.S.Store.shows c.args.store.now).working ∷ [])) c.roll_back.ensures.goes (g.met.S.Store.goes_on_refl _ (Going.writes ((g.S.Store.shows c.args.store.now).working ∷ [])))

pub returns-in-Rollback-clause-commits : goal.returns-in-Rollback-clause-commits
returns-in-Rollback-clause-commits g c = inl (g.met.S.Store.goes_on_trans _ _ _ Going.keeps Going.changes c.roll_back.ensures.goes (g.met.S.Store.goes_on_refl _ Going.changes))

pub returns-in-Commit-clause-goes : goal.returns-in-Commit-clause-goes
returns-in-Commit-clause-goes g c =
    let old = g.S.Store.shows c.args.store.now in
    commit_goes (λ going. g.S.Store.goes_on c.args.store.now c.commit.new.store going) old (is_session c.args.session c.args.writer.now)
    (λ h. g.met.S.Store.goes_on_trans _ _ _ Going.keeps (Going.writes (old.working ∷ [])) h (g.met.S.Store.goes_on_refl _ (Going.writes (old.working ∷ [])))) c.commit.ensures.goes

pub returns-in-Commit-clause-commits : goal.returns-in-Commit-clause-commits
returns-in-Commit-clause-commits g c =
    let is = c.in-Commit.ensures in
    commit_of_writer (λ going. g.S.Store.goes_on c.args.store.now c.commit.new.store going) (g.S.Store.shows c.args.store.now) (is_session c.args.session c.args.writer.now) c.args.statement.now is.0 is.1
    (λ h. g.met.S.Store.goes_on_trans _ _ _ Going.keeps Going.changes h (g.met.S.Store.goes_on_refl _ Going.changes)) c.commit.ensures.goes

pub returns-in-SetTransaction-clause-commits : goal.returns-in-SetTransaction-clause-commits
returns-in-SetTransaction-clause-commits g c = inl (g.met.S.Store.goes_on_refl _ Going.changes)

pub returns-in-Explain-clause-goes : goal.returns-in-Explain-clause-goes
returns-in-Explain-clause-goes g c = g.met.S.Store.goes_on_trans _ _ _ Going.keeps (Going.writes ((g.S.Store.shows c.args.store.now).working ∷ [])) c.explain_query.ensures.goes (g.met.S.Store.goes_on_refl _ (Going.writes ((g.S.Store.shows c.args.store.now).working ∷ [])))

pub returns-in-Explain-clause-commits : goal.returns-in-Explain-clause-commits
returns-in-Explain-clause-commits g c = inl (g.met.S.Store.goes_on_trans _ _ _ Going.keeps Going.changes c.explain_query.ensures.goes (g.met.S.Store.goes_on_refl _ Going.changes))

pub returns-in-Query-clause-kept : goal.returns-in-Query-clause-kept
returns-in-Query-clause-kept g c =
    refused_alike c.query.result (λ refusal. SameButMark (g.S.Store.shows c.args.store.now) (g.S.Store.shows c.query.new.store))
    (Keeps c.args.statement.now (g.S.Store.shows c.args.store.now) c.args.writer.now (kept_of c.args.slot.now) (g.S.Store.shows c.query.new.store) c.args.writer.now (kept_of c.args.slot.now))
    (λ refusal k other fetch. (k, refl, refl)) c.query.ensures.kept

pub returns-in-Change-clause-kept : goal.returns-in-Change-clause-kept
returns-in-Change-clause-kept g c =
    refused_alike c.change.result (λ refusal. refusal ≢ SerializationFailure → SameButMark (g.S.Store.shows c.args.store.now) (g.S.Store.shows c.change.new.store) × (c.change.new.writer ≡ c.args.writer.now))
    (Keeps c.args.statement.now (g.S.Store.shows c.args.store.now) c.args.writer.now (kept_of c.args.slot.now) (g.S.Store.shows c.change.new.store) c.change.new.writer (kept_of c.args.slot.now))
    (λ refusal k other fetch. ((k other).0, (k other).1, refl)) c.change.ensures.kept

pub returns-in-Commit-clause-kept : goal.returns-in-Commit-clause-kept
returns-in-Commit-clause-kept g c =
    refused_alike c.commit.result (λ refusal. ((g.S.Store.shows c.commit.new.store) ≡ (g.S.Store.shows c.args.store.now)) × (c.commit.new.writer ≡ c.args.writer.now) × (c.commit.new.mode ≡ c.args.slot.now.mode))
    (Keeps c.args.statement.now (g.S.Store.shows c.args.store.now) c.args.writer.now (kept_of c.args.slot.now) (g.S.Store.shows c.commit.new.store) c.commit.new.writer (with_mode (kept_of c.args.slot.now) c.commit.new.mode))
    (λ refusal k. keeps_all c.args.statement.now (g.S.Store.shows c.args.store.now) (g.S.Store.shows c.commit.new.store) c.args.writer.now c.commit.new.writer (kept_of c.args.slot.now) (with_mode (kept_of c.args.slot.now) c.commit.new.mode) refusal k.0 k.1
    (ap (with_mode (kept_of c.args.slot.now)) k.2)) c.commit.ensures.kept

pub returns-in-Rollback-clause-kept : goal.returns-in-Rollback-clause-kept
returns-in-Rollback-clause-kept g c = rw c.roll_back.ensures.done tt

pub returns-in-SetTransaction-clause-kept : goal.returns-in-SetTransaction-clause-kept
returns-in-SetTransaction-clause-kept g c =
    refused_alike c.set_mode.result (λ refusal. c.set_mode.new.mode ≡ c.args.slot.now.mode)
    (Keeps c.args.statement.now (g.S.Store.shows c.args.store.now) c.args.writer.now (kept_of c.args.slot.now) (g.S.Store.shows c.args.store.now) c.args.writer.now (with_mode (kept_of c.args.slot.now) c.set_mode.new.mode))
    (λ refusal k other fetch. (same (g.S.Store.shows c.args.store.now) (g.S.Store.shows c.args.store.now) refl, refl, ap (with_mode (kept_of c.args.slot.now)) k)) c.set_mode.ensures.kept

pub returns-in-Cursor-clause-kept : goal.returns-in-Cursor-clause-kept
returns-in-Cursor-clause-kept g c =
    refused_alike c.cursor_call.result (λ refusal. is_fetch c.args.statement.now ≡ false → SameButMark (g.S.Store.shows c.args.store.now) (g.S.Store.shows c.cursor_call.new.store) × (kept_of c.cursor_call.new.slot ≡ (kept_of c.args.slot.now)))
    (Keeps c.args.statement.now (g.S.Store.shows c.args.store.now) c.args.writer.now (kept_of c.args.slot.now) (g.S.Store.shows c.cursor_call.new.store) c.args.writer.now (kept_of c.cursor_call.new.slot))
    (λ refusal k other fetch. let h = k fetch in (h.0, refl, h.1)) c.cursor_call.ensures.kept

pub returns-in-Explain-clause-kept : goal.returns-in-Explain-clause-kept
returns-in-Explain-clause-kept g c =
    refused_alike c.explain_query.result (λ refusal. SameButMark (g.S.Store.shows c.args.store.now) (g.S.Store.shows c.explain_query.new.store))
    (Keeps c.args.statement.now (g.S.Store.shows c.args.store.now) c.args.writer.now (kept_of c.args.slot.now) (g.S.Store.shows c.explain_query.new.store) c.args.writer.now (kept_of c.args.slot.now))
    (λ refusal k other fetch. (k, refl, refl)) c.explain_query.ensures.kept

pub returns-in-Query-clause-idle : goal.returns-in-Query-clause-idle
returns-in-Query-clause-idle g c = λ unchanged. (g.met.S.Store.goes_on_goes _ _ _ c.query.ensures.goes).stays.writes

pub returns-in-Cursor-clause-idle : goal.returns-in-Cursor-clause-idle
returns-in-Cursor-clause-idle g c = λ unchanged. (g.met.S.Store.goes_on_goes _ _ _ c.cursor_call.ensures.goes).stays.writes

pub returns-in-Change-clause-idle : goal.returns-in-Change-clause-idle
returns-in-Change-clause-idle g c = λ unchanged. (g.met.S.Store.goes_on_goes _ _ _ c.change.ensures.goes).stays.writes

pub returns-in-Rollback-clause-idle : goal.returns-in-Rollback-clause-idle
returns-in-Rollback-clause-idle g c = λ unchanged. (g.met.S.Store.goes_on_goes _ _ _ c.roll_back.ensures.goes).stays.writes

pub returns-in-Explain-clause-idle : goal.returns-in-Explain-clause-idle
returns-in-Explain-clause-idle g c = λ unchanged. (g.met.S.Store.goes_on_goes _ _ _ c.explain_query.ensures.goes).stays.writes

pub returns-in-Query-clause-device : goal.returns-in-Query-clause-device
returns-in-Query-clause-device g c = c.query.ensures.device

pub returns-in-Change-clause-device : goal.returns-in-Change-clause-device
returns-in-Change-clause-device g c = c.change.ensures.device

pub returns-in-Commit-clause-device : goal.returns-in-Commit-clause-device
returns-in-Commit-clause-device g c = c.commit.ensures.refused

pub returns-in-Commit-clause-idle : goal.returns-in-Commit-clause-idle
returns-in-Commit-clause-idle g c = c.commit.ensures.idle

pub returns-in-SetTransaction-clause-idle : goal.returns-in-SetTransaction-clause-idle
returns-in-SetTransaction-clause-idle g c = λ unchanged. refl

pub returns-in-SetTransaction-clause-goes : goal.returns-in-SetTransaction-clause-goes
returns-in-SetTransaction-clause-goes g c = g.met.S.Store.goes_on_refl _ (Going.writes ((g.S.Store.shows c.args.store.now).working ∷ []))

pub returns-in-Cursor-clause-device : goal.returns-in-Cursor-clause-device
returns-in-Cursor-clause-device g c = c.cursor_call.ensures.device

pub returns-in-Explain-clause-device : goal.returns-in-Explain-clause-device
returns-in-Explain-clause-device g c = c.explain_query.ensures.device

pub returns-in-Change-clause-reached : goal.returns-in-Change-clause-reached
returns-in-Change-clause-reached g c = λ is. c.change.ensures.reached

pub returns-in-Query-clause-reached : goal.returns-in-Query-clause-reached
returns-in-Query-clause-reached g c = λ is. is_no_change _ c.args.statement.now _ c.in-Query.ensures.1 refl is

pub returns-in-Commit-clause-reached : goal.returns-in-Commit-clause-reached
returns-in-Commit-clause-reached g c = λ is. is_no_change _ c.args.statement.now _ c.in-Commit.ensures.1 refl is

pub returns-in-Rollback-clause-reached : goal.returns-in-Rollback-clause-reached
returns-in-Rollback-clause-reached g c = λ is. is_no_change _ c.args.statement.now _ c.in-Rollback.ensures.1 refl is

pub returns-in-SetTransaction-clause-reached : goal.returns-in-SetTransaction-clause-reached
returns-in-SetTransaction-clause-reached g c = λ is. is_no_change _ c.args.statement.now _ c.in-SetTransaction.ensures refl is

pub returns-in-Explain-clause-reached : goal.returns-in-Explain-clause-reached
returns-in-Explain-clause-reached g c = λ is. is_no_change _ c.args.statement.now _ c.in-Explain.ensures.1 refl is

pub returns-in-Cursor-clause-reached : goal.returns-in-Cursor-clause-reached
returns-in-Cursor-clause-reached g c = λ is. cursor_call_is_none _ c.args.statement.now c.in-Cursor.ensures is

pub returns-in-Commit-clause-damage : goal.returns-in-Commit-clause-damage
returns-in-Commit-clause-damage g c = λ of. c.commit.ensures.damage

pub returns-in-Rollback-clause-damage : goal.returns-in-Rollback-clause-damage
returns-in-Rollback-clause-damage g c = λ of. rw c.roll_back.ensures.done c.roll_back.ensures.damage

pub returns-in-SetTransaction-clause-damage : goal.returns-in-SetTransaction-clause-damage
returns-in-SetTransaction-clause-damage g c = λ of. state_tells c.set_mode.result (g.S.Store.damaged c.args.store.now) c.set_mode.ensures.refused

pub returns-in-Query-clause-damage : goal.returns-in-Query-clause-damage
returns-in-Query-clause-damage g c = λ of. is_of_none _ c.args.statement.now _ c.in-Query.ensures.1 refl of

pub returns-in-Explain-clause-damage : goal.returns-in-Explain-clause-damage
returns-in-Explain-clause-damage g c = λ of. is_of_none _ c.args.statement.now _ c.in-Explain.ensures.1 refl of

pub returns-in-Change-clause-damage : goal.returns-in-Change-clause-damage
returns-in-Change-clause-damage g c = λ of. change_is_of_none _ c.args.statement.now c.in-Change.ensures of

pub returns-in-Cursor-clause-damage : goal.returns-in-Cursor-clause-damage
returns-in-Cursor-clause-damage g c = λ of. cursor_is_of_none _ c.args.statement.now c.in-Cursor.ensures of
