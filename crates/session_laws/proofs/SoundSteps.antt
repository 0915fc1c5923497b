-- Every event leaves a sound world sound.
use Rattle.std.proofs.Common.{◌≡◌, ◌≢◌, ◌⊎◌, ℕ, ◌+◌, Bool, true, false, cond, Option, Some, None, Result, Ok, Err, refl, sym, ap, ◌∙◌, subst, inl, inr, is_some}
use Rattle.std.proofs.lemmas.Bool.{cases_eq, eqb-true, ne_eqb}
use Rattle.std.specs.FinMap.{get, empty, get-empty}
use Rattle.std.specs.Ordering.{nat_cmp}
use Rattle.refusals.specs.declared.refusal.Refusal.{Refusal}
use Rattle.denote.specs.Database.{Database}
use Rattle.replies.specs.declared.reply.Reply.{Reply}
use Rattle.session_definitions.specs.Asked.{Asked}
use Rattle.session_definitions.specs.Effect.{Effect, after, committed}
use Rattle.session_definitions.specs.Rules.{Rules}
use Rattle.session_definitions.specs.Run.{Event, MakesSession, FlushesPages, Happens, without_session}
use Rattle.session_laws.specs.Sound.{IsSoundTransaction, IsSoundSession, IsSoundMode, IsSound}
use Rattle.session_definitions.specs.Step.{Call}
use Rattle.session_definitions.specs.Transactions.{starting, begun, has_other, obstacle}
use Rattle.session_definitions.specs.World.{Transaction, Session, World, is_live, is_session, is_writer, new_session, with_session}
use Rattle.session_laws.proofs.Effects.{left_as, writes_after, IsAllowed, others_stay, own_session, others_write, own_writes, without_other, without_itself}
use Rattle.session_laws.proofs.Maps.{get_here, get_there, get_gone, get_left}
use Rattle.session_laws.proofs.Modes.{LeavesMode, call_mode}
use Rattle.session_laws.proofs.Shapes.{IsShaped, shape, runs_in}
use Rattle.session_laws.proofs.SoundLemmas.{neither, not_overtaken, sound_begun, sound_kept, began_now, sound_wrote, later}

pub same_Some : {A : Type 0} (x y : A) → Some x ≡ Some y → x ≡ y
same_Some x y e = cc

-- ---- an effect

pub allowed : (w : World) (s : ℕ) (session : Session) (e : Effect) → IsShaped session (begun w session) (obstacle w s session) e → IsAllowed w s e
allowed w s session Effect.Nothing h = tt
allowed w s session (Effect.Becomes x) h = tt
allowed w s session (Effect.Writes x) h = (neither (has_other s w.writer) _ (not_overtaken w s session h.0)).0
allowed w s session (Effect.Commits t) h = tt
allowed w s session Effect.RollsBack h = tt

-- the number of commits and the last database after a commit
either_commits : (b : Bool) (x y : World) → (cond b x y).commits ≡ cond b x.commits y.commits
either_commits true x y = refl
either_commits false x y = refl

either_last : (b : Bool) (x y : World) → (cond b x y).last ≡ cond b x.last y.last
either_last true x y = refl
either_last false x y = refl

pub committed_commits : (w : World) (s : ℕ) (session : Session) (t : Transaction)
    → (committed w s session t).commits ≡ cond (is_writer w s) (w.commits + 1) w.commits
committed_commits w s session t = either_commits (is_writer w s) _ _

pub committed_last : (w : World) (s : ℕ) (session : Session) (t : Transaction)
    → (committed w s session t).last ≡ cond (is_writer w s) t.working w.last
committed_last w s session t = either_last (is_writer w s) _ _

-- there is one writer
pub only_writer : (s k : ℕ) (o : Option ℕ) → k ≢ s → is_session s o ≡ true → is_session k o ≡ false
only_writer s k None ne holds = refl
only_writer s k (Some writer) ne holds = ne_eqb writer k (λ f. ne (sym f ∙ eqb-true writer s holds))

module _ (w : World) (s : ℕ) (session : Session) (sound : IsSound w) (stands : get w.sessions s ≡ Some session) where
  own_before : IsSoundSession w.commits w.last (is_writer w s) session.transaction
  own_before = sound.sessions s session stands

  begun_before : IsSoundTransaction w.commits w.last (is_writer w s) (begun w session)
  begun_before = sound_begun w.commits w.last (is_writer w s) session.transaction (starting w session.next) own_before refl refl refl

  -- the session itself
  sound_own : (e : Effect) → IsShaped session (begun w session) (obstacle w s session) e
      → IsSoundSession (after w s session e).commits (after w s session e).last (writes_after (is_writer w s) e) (left_as session e).transaction
  sound_own Effect.Nothing h = own_before
  sound_own (Effect.Becomes x) h = sound_kept w.commits w.last (is_writer w s) session (begun w session) x h own_before begun_before
  sound_own (Effect.Writes x) h =
      let free = neither (has_other s w.writer) _ (not_overtaken w s session h.0) in
      sound_wrote w.commits w.last (is_writer w s) x.transaction h.1.0 (begun w session) h.1.1 h.1.2
      (began_now w.commits w.last (is_writer w s) session.transaction (starting w session.next) own_before refl free.1) begun_before
  sound_own (Effect.Commits t) h = refl
  sound_own Effect.RollsBack h = refl

  -- another session
  sound_beside : (t : Transaction) (k : ℕ) (x : Session) (b : Bool) → is_writer w s ≡ b → k ≢ s
      → IsSoundSession w.commits w.last (is_writer w k) x.transaction
      → IsSoundSession (cond b (w.commits + 1) w.commits) (cond b t.working w.last) (is_writer w k) x.transaction
  sound_beside t k x true is ne before =
      let fails : is_writer w k ≡ false = only_writer s k w.writer ne is in
      subst (λ v. IsSoundSession (w.commits + 1) t.working v x.transaction) (sym fails)
      (later w.commits w.last t.working x.transaction (subst (λ v. IsSoundSession w.commits w.last v x.transaction) fails before))
  sound_beside t k x false is ne before = before

  sound_other : (e : Effect) (k : ℕ) (x : Session) → k ≢ s → get w.sessions k ≡ Some x
      → IsSoundSession (after w s session e).commits (after w s session e).last (is_writer w k) x.transaction
  sound_other Effect.Nothing k x ne is = sound.sessions k x is
  sound_other (Effect.Becomes y) k x ne is = sound.sessions k x is
  sound_other (Effect.Writes y) k x ne is = sound.sessions k x is
  sound_other (Effect.Commits t) k x ne is =
      let before : IsSoundSession (cond (is_writer w s) (w.commits + 1) w.commits) (cond (is_writer w s) t.working w.last) (is_writer w k) x.transaction
      = sound_beside t k x (is_writer w s) refl ne (sound.sessions k x is) in
      subst (λ n. IsSoundSession n (committed w s session t).last (is_writer w k) x.transaction) (sym (committed_commits w s session t))
      (subst (λ db. IsSoundSession (cond (is_writer w s) (w.commits + 1) w.commits) db (is_writer w k) x.transaction)
      (sym (committed_last w s session t)) before)
  sound_other Effect.RollsBack k x ne is = sound.sessions k x is

  -- the mode of the session itself
  own_mode : (e : Effect) → LeavesMode e → IsSoundMode (left_as session e).next (left_as session e).transaction
  own_mode Effect.Nothing m = sound.modes s session stands
  own_mode (Effect.Becomes x) m = m
  own_mode (Effect.Writes x) m = m
  own_mode (Effect.Commits t) m = tt
  own_mode Effect.RollsBack m = tt

  pub sound_after : (e : Effect) → IsShaped session (begun w session) (obstacle w s session) e → LeavesMode e → IsSound (after w s session e)
  sound_after e h m = record {
    sessions = λ k x is. each_session k x is (cases_eq k s);
    modes = λ k x is. each_mode k x is (cases_eq k s);
    writer = λ k holds. live k holds (cases_eq k s);
  }
    where
      each_session : (k : ℕ) (x : Session) → get (after w s session e).sessions k ≡ Some x → (k ≡ s) ⊎ (k ≡ s → ⊥)
          → IsSoundSession (after w s session e).commits (after w s session e).last (is_writer (after w s session e) k) x.transaction
      each_session k x is (inl same) =
          let own : get (after w s session e).sessions s ≡ Some x = subst (λ q. get (after w s session e).sessions q ≡ Some x) same is in
          let f : x ≡ left_as session e = same_Some x (left_as session e) (sym own ∙ own_session w s session e stands) in
          rw (same, own_writes w s session e, f) (sound_own e h)
      each_session k x is (inr ne) =
          rw (others_write w s session e k ne (allowed w s session e h)) (sound_other e k x ne (sym (others_stay w s session e k ne) ∙ is))

      each_mode : (k : ℕ) (x : Session) → get (after w s session e).sessions k ≡ Some x → (k ≡ s) ⊎ (k ≡ s → ⊥) → IsSoundMode x.next x.transaction
      each_mode k x is (inl same) =
          let own : get (after w s session e).sessions s ≡ Some x = subst (λ q. get (after w s session e).sessions q ≡ Some x) same is in
          let f : left_as session e ≡ x = same_Some (left_as session e) x (sym (own_session w s session e stands) ∙ own) in
          subst (λ (y : Session). IsSoundMode y.next y.transaction) f (own_mode e m)
      each_mode k x is (inr ne) = sound.modes k x (sym (others_stay w s session e k ne) ∙ is)

      live : (k : ℕ) → is_writer (after w s session e) k ≡ true → (k ≡ s) ⊎ (k ≡ s → ⊥) → is_live (after w s session e) k ≡ true
      live k holds (inl same) = rw same (ap is_some (own_session w s session e stands))
      live k holds (inr ne) =
          ap is_some (others_stay w s session e k ne)
          ∙ sound.writer k (sym (others_write w s session e k ne (allowed w s session e h)) ∙ holds)

pub sound_call : (rules : Rules) (old : World) (s : ℕ) (asked : Asked) (reply : Reply) (effect : Effect) (new : World)
    → IsSound old → Call rules old s asked reply effect new → IsSound new
sound_call rules old s asked reply effect new sound call =
    subst IsSound (sym call.leaves) (sound_after old s call.session sound call.stands effect
    (shape rules call.session (begun old call.session) (obstacle old s call.session) reply effect (runs_in old call.session) asked call.replies)
    (call_mode rules call.session (begun old call.session) (obstacle old s call.session) reply effect (sound.modes s call.session call.stands) asked call.replies))

-- ---- other events

unlive_writes : (old : World) (s : ℕ) → IsSound old → is_live old s ≡ false → is_writer old s ≡ false
unlive_writes old s sound free =
    elim (is_writer old s) as (λ b. is_writer old s ≡ b → b ≡ false) [
      | true ↦ λ e. let stands : is_live old s ≡ true = sound.writer s e in cc
      | false ↦ λ e. refl
    ] refl

sound_made : (old : World) (s : ℕ) → is_live old s ≡ false → IsSound old → IsSound (with_session old s new_session)
sound_made old s free sound = record {
  sessions = λ k x is. each_session k x is (cases_eq k s);
  modes = λ k x is. each_mode k x is (cases_eq k s);
  writer = λ k holds. live k holds (cases_eq k s);
}
  where
    each_session : (k : ℕ) (x : Session) → get (with_session old s new_session).sessions k ≡ Some x → (k ≡ s) ⊎ (k ≡ s → ⊥)
        → IsSoundSession old.commits old.last (is_writer old k) x.transaction
    each_session k x is (inl same) =
        let own : get (with_session old s new_session).sessions s ≡ Some x = subst (λ q. get (with_session old s new_session).sessions q ≡ Some x) same is in
        let f : x ≡ new_session = same_Some x new_session (sym own ∙ get_here old.sessions s new_session) in
        rw (same, f) (unlive_writes old s sound free)
    each_session k x is (inr ne) = sound.sessions k x (sym (get_there old.sessions s new_session k ne) ∙ is)

    each_mode : (k : ℕ) (x : Session) → get (with_session old s new_session).sessions k ≡ Some x → (k ≡ s) ⊎ (k ≡ s → ⊥) → IsSoundMode x.next x.transaction
    each_mode k x is (inl same) =
        let own : get (with_session old s new_session).sessions s ≡ Some x = subst (λ q. get (with_session old s new_session).sessions q ≡ Some x) same is in
        let f : new_session ≡ x = same_Some new_session x (sym (get_here old.sessions s new_session) ∙ own) in
        subst (λ (y : Session). IsSoundMode y.next y.transaction) f tt
    each_mode k x is (inr ne) = sound.modes k x (sym (get_there old.sessions s new_session k ne) ∙ is)

    live : (k : ℕ) → is_writer old k ≡ true → (k ≡ s) ⊎ (k ≡ s → ⊥) → is_live (with_session old s new_session) k ≡ true
    live k holds (inl same) = rw same (ap is_some (get_here old.sessions s new_session))
    live k holds (inr ne) = ap is_some (get_there old.sessions s new_session k ne) ∙ sound.writer k holds

sound_dropped : (old : World) (s : ℕ) → IsSound old → IsSound (without_session old s)
sound_dropped old s sound = record {
  sessions = λ k x is. each_session k x is (cases_eq k s);
  modes = λ k x is. each_mode k x is (cases_eq k s);
  writer = λ k holds. live k holds (cases_eq k s);
}
  where
    each_session : (k : ℕ) (x : Session) → get (without_session old s).sessions k ≡ Some x → (k ≡ s) ⊎ (k ≡ s → ⊥)
        → IsSoundSession old.commits old.last (is_writer (without_session old s) k) x.transaction
    each_session k x is (inl same) =
        let own : get (without_session old s).sessions s ≡ Some x = subst (λ q. get (without_session old s).sessions q ≡ Some x) same is in
        let none : None ≡ Some x = sym (get_gone old.sessions s) ∙ own in cc
    each_session k x is (inr ne) =
        subst (λ v. IsSoundSession old.commits old.last v x.transaction) (sym (without_other s k old.writer ne))
        (sound.sessions k x (sym (get_left old.sessions s k ne) ∙ is))

    each_mode : (k : ℕ) (x : Session) → get (without_session old s).sessions k ≡ Some x → (k ≡ s) ⊎ (k ≡ s → ⊥) → IsSoundMode x.next x.transaction
    each_mode k x is (inl same) =
        let own : get (without_session old s).sessions s ≡ Some x = subst (λ q. get (without_session old s).sessions q ≡ Some x) same is in
        let none : None ≡ Some x = sym (get_gone old.sessions s) ∙ own in absurd (cc)
    each_mode k x is (inr ne) = sound.modes k x (sym (get_left old.sessions s k ne) ∙ is)

    live : (k : ℕ) → is_writer (without_session old s) k ≡ true → (k ≡ s) ⊎ (k ≡ s → ⊥) → is_live (without_session old s) k ≡ true
    live k holds (inl same) =
        let own : is_writer (without_session old s) s ≡ true = subst (λ q. is_writer (without_session old s) q ≡ true) same holds in
        let fails : is_writer (without_session old s) s ≡ false = without_itself s old.writer in cc
    live k holds (inr ne) = ap is_some (get_left old.sessions s k ne) ∙ sound.writer k (sym (without_other s k old.writer ne) ∙ holds)

-- a world without sessions and writer
pub sound_empty : (commits : ℕ) (db : Database) → IsSound (record { commits = commits; last = db; writer = None; sessions = empty })
sound_empty commits db = record {
  sessions = λ k x is. let none : None ≡ Some x = sym (get-empty nat_cmp k) ∙ is in cc;
  modes = λ k x is. let none : None ≡ Some x = sym (get-empty nat_cmp k) ∙ is in absurd (cc);
  writer = λ k holds. let fails : false ≡ true = holds in cc;
}

sound_made_or_not : (old : World) (made : Result ℕ Refusal) (new : World) → IsSound old → MakesSession old made new → IsSound new
sound_made_or_not old (Ok s) new sound h = subst IsSound (sym h.2) (sound_made old s h.0.free sound)
sound_made_or_not old (Err refusal) new sound h = subst IsSound (sym h.1) sound

sound_flushed : (old : World) (left : Result ℕ Refusal) (new : World) → IsSound old → FlushesPages old left new → IsSound new
sound_flushed old (Ok left) new sound h = subst IsSound (sym h) sound
sound_flushed old (Err refusal) new sound h = subst IsSound (sym h.1) sound

pub sound_event : (rules : Rules) (old : World) (event : Event) (new : World) → IsSound old → Happens rules old event new → IsSound new
sound_event rules old (Event.Makes made) new sound h = sound_made_or_not old made new sound h
sound_event rules old (Event.Calls s asked reply effect) new sound h = sound_call rules old s asked reply effect new sound h
sound_event rules old (Event.Drops s) new sound h = subst IsSound (sym h.leaves) (sound_dropped old s sound)
sound_event rules old (Event.Flushes left) new sound h = sound_flushed old left new sound h
sound_event rules old (Event.SetsPieces pieces) new sound h = subst IsSound (sym h) sound
sound_event rules old (Event.FailsToClose refusal) new sound h = subst IsSound (sym h.1) (sound_empty old.commits old.last)
sound_event rules old Event.Reopens new sound h = subst IsSound (sym h) (sound_empty 0 old.last)
