-- What each call of a core keeps.
use Rattle.std.proofs.Common.{◌≡◌, ◌≤◌, refl, ap, sym, subst, ◌∙◌, ℕ, Bool, true, false, List, [], ◌∷◌, Option, Some, None, Ok}
use Rattle.std.specs.Prelude.{is_some}
use Rattle.std.specs.FinMap.{get}
use Rattle.lexer.specs.Token.{Bytes}
use Rattle.denote.specs.Database.{Database, CheckReading, IsGood}
use Rattle.replies.specs.declared.reply.Reply.{Reply}
use Rattle.session_definitions.specs.Asked.{Asked}
use Rattle.session_definitions.specs.Rules.{Rules}
use Rattle.session_definitions.specs.Run.{Event, MakesSession, DropsSession, Moment, Run}
use Rattle.session_definitions.specs.Step.{Step, StepOf}
use Rattle.session_definitions.specs.World.{Transaction, World, is_live}
use Rattle.session_laws.specs.Sound.{IsGoodWorld}
use Rattle.session_laws.proofs.GoodSteps.{good_drops, good_made_or_not}
use Rattle.store.specs.Stored.{Found, Stored}
use Rattle.transactions.specs.Orderly.{IsOrderly, WriterIsCurrent}
use Rattle.transactions.specs.Shown.{Kept, Slots, slot_at, session_of, shown}
use Rattle.transactions.proofs.Obstacles.{runs}
use Rattle.transactions.proofs.SlotLemmas.{stands}
use Rattle.sessions.specs.declared.core_of.Core.{Core}
use Rattle.sessions.specs.declared.core_of.SessionId.{SessionId}
use Rattle.sessions.specs.OfCore.{IsSound, number_of, slots_of, world_of}
use Rattle.sessions.specs.declared.slots.Slot.{Slot}
use Rattle.sessions.specs.Numbers.{held_at, kept_in}
use Rattle.sessions.specs.Seen.{seen_in}
use Rattle.sessions.proofs.Holding.{kept_here}
use Rattle.sessions.proofs.Cores.{live_is}
use Rattle.sessions.proofs.QuerySteps.{sees}
use Rattle.scripts.specs.Settled.{HasNoSession, IsSettled, IsCommitted, IsKept}
use Rattle.scripts.proofs.Commits.{same_number, step_grows}

-- ---- databases stay good

-- a run from a good world ends in a good one
abbrev pub KeepsGood : Rules → Type 0
KeepsGood rules = (start end : World) (moments : List Moment) → IsGoodWorld rules.check start → Run rules start moments end → IsGoodWorld rules.check end

-- a session that stands sees a good database
pub good_seen : (reading : CheckReading) (st : Stored) (writer : Option ℕ) (slots : Slots) (s : ℕ) → IsOrderly st writer → is_live (shown st writer slots) s ≡ true
    → IsGoodWorld reading (shown st writer slots) → IsGood reading (seen_in st writer s)
good_seen reading st writer slots s order live good = at_slot (slot_at slots s) refl (sym (live_is st writer slots s) ∙ live)
  where
    working : (kept : Kept) → slot_at slots s ≡ Some kept → (o : Option Transaction) → (session_of st writer s kept).transaction ≡ o → IsGood reading (runs st writer s kept).working
    working kept is None e = rw e good.last
    working kept is (Some t) e = rw e (good.transactions s (session_of st writer s kept) t (stands st writer slots s kept is) e).1

    at_slot : (slot : Option Kept) → slot_at slots s ≡ slot → is_some slot ≡ true → IsGood reading (seen_in st writer s)
    at_slot None is some = absurd (cc some)
    at_slot (Some kept) is some =
        subst (λ (db : Database). IsGood reading db) (sym (sees st writer s kept order)) (working kept is (session_of st writer s kept).transaction refl)

pub same_world : {S L D : Type 0} (shows : S → Stored) (old new : Core S L D) → (new.slots.all ≡ old.slots.all) × (new.writer ≡ old.writer) × (shows new.store ≡ shows old.store)
    → world_of shows new ≡ world_of shows old
same_world shows old new (all, writer, store) = λ i. shown (store i) (writer i) (kept_in (all i))

module _ {S L D : Type 0} (is_sound : S → Type 0) (shows : S → Stored) (rules : Rules) where
  -- ---- at the beginning and at the end

  pub kept_at_first : (core : Core S L D) → IsSettled is_sound shows rules.check core → IsKept is_sound shows rules.check core
  kept_at_first core h = record { sound = h.sound; good = h.good }

  pub settled_at_last : (core : Core S L D) → IsKept is_sound shows rules.check core → HasNoSession (world_of shows core) → IsSettled is_sound shows rules.check core
  settled_at_last core h none = record { sound = h.sound; good = h.good; ended = none }

  -- where no session stands, none has written
  pub settled_committed : (core : Core S L D) → IsSettled is_sound shows rules.check core → IsCommitted shows core
  settled_committed core h = by core.writer refl
    where
      unread : (s : ℕ) → get (shows core.store).readers s ≡ None
      unread s = at_slot (held_at core.slots.all s) refl
        where
          at_slot : (slot : Option Slot) → held_at core.slots.all s ≡ slot → get (shows core.store).readers s ≡ None
          at_slot None is = h.sound.readers s is
          at_slot (Some slot) is =
              let live : is_live (world_of shows core) s ≡ true = live_is (shows core.store) core.writer (slots_of core) s ∙ ap is_some (kept_here core.slots.all s slot is) in
              let dead : is_live (world_of shows core) s ≡ false = h.ended s in absurd (cc)

      by : (writer : Option ℕ) → core.writer ≡ writer → IsCommitted shows core
      by None is = subst (λ (writer : Option ℕ). WriterIsCurrent (shows core.store) writer) is h.sound.order.current
      by (Some s) is =
          let current : WriterIsCurrent (shows core.store) (Some s) = subst (λ (writer : Option ℕ). WriterIsCurrent (shows core.store) writer) is h.sound.order.current in
          absurd (not_both s current.0 current.1)
        where
          not_both : (s : ℕ) (f : Found) → get (shows core.store).readers s ≡ Some f → ⊥
          not_both s f found = let none : get (shows core.store).readers s ≡ None = unread s in absurd (cc)

  -- ---- calls

  pub kept_step : KeepsGood rules → (old new : Core S L D) (session : SessionId) (asked : Asked) (reply : Reply)
      → (IsSound is_sound shows old → is_live (world_of shows old) (number_of session) ≡ true → IsGood rules.check (seen_in (shows old.store) old.writer (number_of session))
      → StepOf rules (world_of shows old) (number_of session) asked reply (world_of shows new))
      → (IsSound is_sound shows old → IsGood rules.check (seen_in (shows old.store) old.writer (number_of session)) → IsSound is_sound shows new)
      → (is_live (world_of shows old) (number_of session) ≡ false → new ≡ old)
      → IsKept is_sound shows rules.check old → IsKept is_sound shows rules.check new
  kept_step keeps old new session asked reply step sound ended h = by (is_live (world_of shows old) (number_of session)) refl
    where
      by : (b : Bool) → is_live (world_of shows old) (number_of session) ≡ b → IsKept is_sound shows rules.check new
      by true live =
          let good = good_seen rules.check (shows old.store) old.writer (slots_of old) (number_of session) h.sound.order live h.good in
          let steps = step h.sound live good in
          record {
            sound = sound h.sound good;
            good = keeps (world_of shows old) (world_of shows new) (record { before = world_of shows old; event = Event.Calls (number_of session) asked reply steps.0 } ∷ []) h.good (refl, steps.1);
          }
      by false dead = subst (λ (core : Core S L D). IsKept is_sound shows rules.check core) (sym (ended dead)) h

  -- no call takes a commit back
  pub commits_grow : (old new : Core S L D) (session : SessionId) (text : Bytes) (reply : Reply)
      → (IsSound is_sound shows old → is_live (world_of shows old) (number_of session) ≡ true → IsGood rules.check (seen_in (shows old.store) old.writer (number_of session))
      → Step rules (world_of shows old) (number_of session) text reply (world_of shows new))
      → (is_live (world_of shows old) (number_of session) ≡ false → new ≡ old)
      → IsKept is_sound shows rules.check old → (shows old.store).commits ≤ (shows new.store).commits
  commits_grow old new session text reply step ended h = by (is_live (world_of shows old) (number_of session)) refl
    where
      by : (b : Bool) → is_live (world_of shows old) (number_of session) ≡ b → (shows old.store).commits ≤ (shows new.store).commits
      by true live =
          let good = good_seen rules.check (shows old.store) old.writer (slots_of old) (number_of session) h.sound.order live h.good in
          step_grows rules (world_of shows old) (number_of session) text reply (world_of shows new) (step h.sound live good)
      by false dead = same_number (shows old.store).commits (shows new.store).commits (sym (ap (λ (core : Core S L D). (shows core.store).commits) (ended dead)))

  pub kept_made : (session : SessionId) (old new : Core S L D) → (IsSound is_sound shows old → MakesSession (world_of shows old) (Ok (number_of session)) (world_of shows new))
      → (IsSound is_sound shows old → IsSound is_sound shows new) → IsKept is_sound shows rules.check old → IsKept is_sound shows rules.check new
  kept_made session old new makes sound h = record {
    sound = sound h.sound;
    good = good_made_or_not rules (world_of shows old) (Ok (number_of session)) (world_of shows new) h.good (makes h.sound);
  }

  -- what shows the same world is kept alike
  pub kept_same : (old new : Core S L D) → (new.slots.all ≡ old.slots.all) × (new.writer ≡ old.writer) × (shows new.store ≡ shows old.store)
      → (IsSound is_sound shows old → IsSound is_sound shows new) → IsKept is_sound shows rules.check old → IsKept is_sound shows rules.check new
  kept_same old new (all, writer, store) sound h =
      let same : world_of shows old ≡ world_of shows new = λ i. shown (sym store i) (sym writer i) (kept_in (sym all i)) in
      record { sound = sound h.sound; good = subst (λ (w : World). IsGoodWorld rules.check w) same h.good }

  pub kept_ended : (session : SessionId) (old new : Core S L D)
      → (is_live (world_of shows old) (number_of session) ≡ true → DropsSession (world_of shows old) (number_of session) (world_of shows new))
      → (is_live (world_of shows old) (number_of session) ≡ false → new ≡ old)
      → (IsSound is_sound shows old → IsSound is_sound shows new) → IsKept is_sound shows rules.check old → IsKept is_sound shows rules.check new
  kept_ended session old new drops ended sound h = by (is_live (world_of shows old) (number_of session)) refl
    where
      by : (b : Bool) → is_live (world_of shows old) (number_of session) ≡ b → IsKept is_sound shows rules.check new
      by true live = record { sound = sound h.sound; good = good_drops rules (world_of shows old) (number_of session) (world_of shows new) h.good (drops live) }
      by false dead = subst (λ (core : Core S L D). IsKept is_sound shows rules.check core) (sym (ended dead)) h
