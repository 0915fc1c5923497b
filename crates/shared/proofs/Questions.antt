-- What lies under the lock, and what its caller is told, when a session was asked something.
use Rattle.std.proofs.Common.{◌≡◌, ◌∙◌, ℕ, ◌+◌, ◌%◌, ◌^◌, ◌≤◌, ◌∷◌, ◌++◌, [], true, Option, Some, sym, ap, subst}
use Rattle.replies.specs.declared.reply.Reply.{Reply}
use Rattle.session_definitions.specs.World.{World, is_live}
use Rattle.store.specs.Stored.{Stored}
use Rattle.transactions.specs.Refused.{Counts, IfRefused, TellsReached}
use Rattle.sessions.specs.declared.core_of.Core.{Core}
use Rattle.sessions.specs.declared.core_of.SessionId.{SessionId}
use Rattle.sessions.specs.OfCore.{IsSound, StandAlike, number_of, world_of}
use Rattle.shared.specs.declared.event.Act.TheVariants.{Says}
use Rattle.shared.specs.declared.event.Question.{Question}
use Rattle.shared.specs.declared.rule.View.{View}
use Rattle.shared.specs.History.{IsCounted, MayReach, event}
use Rattle.shared.specs.Turned.{Turn}
use Rattle.shared.specs.Views.{IsAt, IsDesk, Past, Told, caller_in, extended, host, keeper_in, past}
use Rattle.shared.proofs.Counting.{counted_after}
use Rattle.shared.proofs.Desks.{desk_after, extends_after, stands_at}
use Rattle.shared.proofs.Goods.{GoesOn, KeepsGood}

-- what is known when the caller was taken in; the device had refused so many calls
pub record TakenIn (premise : Type 0) (start : World) (callers : Option ℕ) (before : ℕ) (sound : Type 0) (w : World) (count refused : ℕ) (k m : View) (id : ℕ) : Type 0 where
  pub desk : IsDesk premise start callers sound w count k
  pub counted : IsCounted before refused k.log
  pub told : Told (host k m)
  pub at : m.at ≡ Some id

-- what a core does when its session is asked this: it goes on where the session stands, and the
-- count of refused calls goes from the one to the other
pub record IsAsked {S L D : Type 0} (is_sound : S → Type 0) (shows : S → Stored) (old new : Core S L D) (session : SessionId) (asked : Question) (reply : Reply) (refused refused' : ℕ) : Type 0 where
  pub live : StandAlike (world_of shows old) (world_of shows new)
  pub on : is_live (world_of shows old) (number_of session) ≡ true → GoesOn is_sound shows old new (Says (number_of session) asked reply)
  pub counts : refused ≤ refused'
  pub device : Counts reply refused refused'
  pub limits : IfRefused reply (TellsReached (MayReach asked))

module _ {S L D : Type 0} (is_sound : S → Type 0) (shows : S → Stored) (old new : Core S L D) (session : SessionId) (asked : Question) (reply : Reply) (refused refused' : ℕ)
    (keeps : KeepsGood) (premise : Type 0) (start : World) (callers : Option ℕ) (before count : ℕ) (k m : View)
    (h : TakenIn premise start callers before (IsSound is_sound shows old) (world_of shows old) count refused k m (number_of session))
    (a : IsAsked is_sound shows old new session asked reply refused refused') where
  own : IsAt k.log m.who (Some (number_of session))
  own = subst (IsAt k.log m.who) h.at h.told.stands

  stands : is_live (world_of shows old) (number_of session) ≡ true
  stands = stands_at premise start callers (IsSound is_sound shows old) (world_of shows old) count k m (number_of session) h.desk h.told h.at

  counted : IsCounted before refused' (k.log ++ event m.who (Says (number_of session) asked reply) refused' ∷ [])
  counted = counted_after before refused k.log (event m.who (Says (number_of session) asked reply) refused') a.counts a.device a.limits h.counted

  pub desk_asked : (v : View) → v ≡ keeper_in (extended (event m.who (Says (number_of session) asked reply) refused') (host k m))
      → IsDesk premise start callers (IsSound is_sound shows new) (world_of shows new) ((count + 1) % 2 ^ 64) v × IsCounted before refused' v.log
  desk_asked v is =
      subst (λ (x : View). IsDesk premise start callers (IsSound is_sound shows new) (world_of shows new) ((count + 1) % 2 ^ 64) x × IsCounted before refused' x.log) (sym is) (
        desk_after keeps premise start callers (IsSound is_sound shows old) (IsSound is_sound shows new) (world_of shows old) (world_of shows new) count k m
            (Says (number_of session) asked reply) refused' h.desk h.told own a.live (a.on stands),
        counted,
      )

  pub turn_asked : (v w : Past) (x : View) → past m ≡ v → x ≡ caller_in (extended (event m.who (Says (number_of session) asked reply) refused') (host k m)) → past x ≡ w
      → Turn premise start before v asked reply w
  turn_asked v w x was is now =
      subst (λ (p : Past). Turn premise start before p asked reply w) was
      (subst (λ (q : Past). Turn premise start before (past m) asked reply q) (sym (ap past is) ∙ now)
      (record {
        id = number_of session;
        at = h.at;
        call = extends_after keeps premise start callers (IsSound is_sound shows old) (IsSound is_sound shows new) (world_of shows old) (world_of shows new) count k m
            (Says (number_of session) asked reply) refused' before h.desk h.told own counted (a.on stands);
      }))
