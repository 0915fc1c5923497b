-- What a core relies on: in every world of a legal history that begins with good databases, each
-- session sees a good one.
use Rattle.std.proofs.Common.{◌≡◌, ℕ, true, List, Option, Some, None, Ok, Err, refl, sym, subst, ◌∙◌}
use Rattle.std.specs.Prelude.{is_some}
use Rattle.denote.specs.Database.{Database, CheckReading, IsGood}
use Rattle.refusals.specs.declared.refusal.Refusal.{Refusal}
use Rattle.replies.specs.declared.reply.Reply.{Reply}
use Rattle.session_definitions.specs.Rules.{Rules, AreRules}
use Rattle.session_definitions.specs.Run.{MakesSession, DropsSession, Moment, Run}
use Rattle.session_definitions.specs.Step.{StepOf}
use Rattle.session_definitions.specs.World.{Transaction, World, is_live}
use Rattle.session_laws.specs.Sound.{IsGoodWorld}
use Rattle.store.specs.Stored.{Stored}
use Rattle.transactions.specs.Orderly.{IsOrderly}
use Rattle.transactions.specs.Shown.{Kept, Slots, slot_at, session_of, shown}
use Rattle.transactions.proofs.Obstacles.{runs}
use Rattle.transactions.proofs.SlotLemmas.{stands}
use Rattle.sessions.specs.declared.core_of.Core.{Core}
use Rattle.sessions.specs.declared.core_of.SessionId.{SessionId}
use Rattle.sessions.specs.OfCore.{IsSound, number_of, slots_of, world_of}
use Rattle.sessions.specs.Seen.{seen_in}
use Rattle.sessions.proofs.Cores.{live_is}
use Rattle.sessions.proofs.QuerySteps.{sees}
use Rattle.shared.specs.declared.event.Event.{Event}
use Rattle.shared.specs.declared.event.Act.{Act}
use Rattle.shared.specs.declared.event.Act.TheVariants.{Connects, Refused, Says, Ends}
use Rattle.shared.specs.declared.event.Question.{Question}
use Rattle.shared.specs.History.{IsTold, Happens, asked_of}
use Rattle.shared.proofs.Histories.{says_happens, connects_happens, refused_happens, ends_happens}

-- by the rules of names and types a run from a good world ends in a good one
abbrev pub KeepsGood : Type 0
KeepsGood = (rules : Rules) (start end : World) (moments : List Moment) → AreRules rules → IsGoodWorld rules.check start → Run rules start moments end → IsGoodWorld rules.check end

pub good_told : KeepsGood → (rules : Rules) → AreRules rules → (start : World) (log : List Event) (end : World) → IsGoodWorld rules.check start → IsTold rules start log end → IsGoodWorld rules.check end
good_told keeps rules are start log end good h = keeps rules start end h.legal.moments are good h.legal.run

pub good_seen : (reading : CheckReading) (st : Stored) (writer : Option ℕ) (slots : Slots) (s : ℕ) → IsOrderly st writer → is_live (shown st writer slots) s ≡ true
    → IsGoodWorld reading (shown st writer slots) → IsGood reading (seen_in st writer s)
good_seen reading st writer slots s order live good = at_slot (slot_at slots s) refl (sym (live_is st writer slots s) ∙ live)
  where
    working : (kept : Kept) → slot_at slots s ≡ Some kept → (o : Option Transaction) → (session_of st writer s kept).transaction ≡ o → IsGood reading (runs st writer s kept).working
    working kept is None e = rw e good.last
    working kept is (Some t) e = rw e (good.transactions s (session_of st writer s kept) t (stands st writer slots s kept is) e).1

    at_slot : (slot : Option Kept) → slot_at slots s ≡ slot → is_some slot ≡ true → IsGood reading (seen_in st writer s)
    at_slot None is some = absurd (cc some)
    at_slot (Some kept) is some =
        subst (λ (db : Database). IsGood reading db) (sym (sees st writer s kept order)) (working kept is (session_of st writer s kept).transaction refl)

-- ---- calls of a core: each keeps it sound, and is an event of which just the call is told

module _ {S L D : Type 0} (is_sound : S → Type 0) (shows : S → Stored) (old new : Core S L D) where
  abbrev pub GoesOn : Act → Type 0
  GoesOn act = (rules : Rules) → AreRules rules → IsSound is_sound shows old → IsGoodWorld rules.check (world_of shows old)
      → IsSound is_sound shows new × Happens rules (world_of shows old) act (world_of shows new)

  pub says_on : (session : SessionId) (asked : Question) (reply : Reply) → is_live (world_of shows old) (number_of session) ≡ true
      → ((rules : Rules) → AreRules rules → IsSound is_sound shows old → is_live (world_of shows old) (number_of session) ≡ true
      → IsGood rules.check (seen_in (shows old.store) old.writer (number_of session)) → StepOf rules (world_of shows old) (number_of session) (asked_of asked) reply (world_of shows new))
      → ((rules : Rules) → AreRules rules → IsSound is_sound shows old → IsGood rules.check (seen_in (shows old.store) old.writer (number_of session)) → IsSound is_sound shows new)
      → GoesOn (Says (number_of session) asked reply)
  says_on session asked reply live step sound = λ rules are is good.
      let seen = good_seen rules.check (shows old.store) old.writer (slots_of old) (number_of session) is.order live good in
      (sound rules are is seen, says_happens rules (world_of shows old) (world_of shows new) (number_of session) asked reply (step rules are is live seen))

  pub connects_on : (session : SessionId) → (IsSound is_sound shows old → MakesSession (world_of shows old) (Ok (number_of session)) (world_of shows new))
      → (IsSound is_sound shows old → IsSound is_sound shows new) → GoesOn (Connects (number_of session))
  connects_on session makes sound = λ rules are is good. (sound is, connects_happens rules (world_of shows old) (world_of shows new) (number_of session) (makes is))

  pub refused_on : (refusal : Refusal) → (IsSound is_sound shows old → MakesSession (world_of shows old) (Err refusal) (world_of shows new))
      → (IsSound is_sound shows old → IsSound is_sound shows new) → GoesOn (Refused refusal)
  refused_on refusal makes sound = λ rules are is good. (sound is, refused_happens rules (world_of shows old) (world_of shows new) refusal (makes is))

  pub ends_on : (session : SessionId) → DropsSession (world_of shows old) (number_of session) (world_of shows new)
      → (IsSound is_sound shows old → IsSound is_sound shows new) → GoesOn (Ends (number_of session))
  ends_on session drops sound = λ rules are is good. (sound is, ends_happens rules (world_of shows old) (world_of shows new) (number_of session) drops)
