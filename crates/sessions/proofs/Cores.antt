-- The sessions of a core.
use Rattle.std.proofs.Common.{◌≡◌, ◌≢◌, ◌⊎◌, ℕ, zero, suc, ◌<◌, true, false, length, Option, Some, None, Ok, Err, refl, sym, ap, subst, ◌∙◌, inl, inr, arith}
use Rattle.std.proofs.lemmas.Cmp.{nat_cmp_total}
use Rattle.std.specs.Ordering.{nat_cmp}
use Rattle.std.proofs.lemmas.Bool.{cases_eq}
use Rattle.std.specs.Prelude.{slice_set, replicate, IsSome}
use Rattle.std.specs.Option.{option_map, is_some}
use Rattle.std.specs.FinMap.{FinMap, get, empty, get-empty, same_map, nat_cmp-IsAntisymmetric}
use Rattle.refusals.specs.declared.refusal.Refusal.{Refusal}
use Rattle.refusals.specs.declared.refusal.Refusal.TheVariants.{Damaged, Exceeded}
use Rattle.session_definitions.specs.Refusals.{IsReserved, StopsFlush}
use Rattle.store.specs.declared.error.StoreError.{StoreError}
use Rattle.store.specs.declared.error.StoreError.TheVariants as store
use Rattle.store.specs.declared.error.StoreLimit.TheVariants as which
use Rattle.store.specs.Errors.{MayFail, Never}
use Rattle.transactions.specs.Refused.{refused_by}
use Rattle.transactions.proofs.Tests.{reserved}
use Rattle.refusals.specs.declared.limit.Limit.TheVariants as limit
use Rattle.denote.specs.Database.{Database}
use Rattle.session_definitions.specs.Run.{MakesSession, DropsSession, without_session, without_sessions}
use Rattle.session_definitions.specs.World.{Session, is_live, opened}
use Rattle.store.specs.Contents.{database_of}
use Rattle.store.specs.Stored.{Found, Stored, IsOpened, closed}
use Rattle.transactions.specs.Orderly.{IsOrderly}
use Rattle.transactions.specs.Shown.{Kept, Slots, fresh, slot_at, session_of, sessions_of, shown}
use Rattle.transactions.proofs.SlotLemmas.{session_at, slot_set, slot_beside, slot_within, stands}
use Rattle.transactions.proofs.Standing.{made}
use Rattle.sessions.specs.Numbers.{kept_in, no_slots}

-- a session stands where its slot has a mode
pub live_is : (st : Stored) (w : Option ℕ) (slots : Slots) (s : ℕ) → is_live (shown st w slots) s ≡ is_some (slot_at slots s)
live_is st w slots s = ap is_some (session_at st w slots s) ∙ by (slot_at slots s)
  where
    by : (o : Option Kept) → is_some (option_map (session_of st w s) o) ≡ is_some o
    by None = refl
    by (Some mode) = refl

pub not_live : (st : Stored) (w : Option ℕ) (slots : Slots) (s : ℕ) → slot_at slots s ≡ None → is_live (shown st w slots) s ≡ false
not_live st w slots s e = live_is st w slots s ∙ ap is_some e

pub is_live_at : (st : Stored) (w : Option ℕ) (slots : Slots) (s : ℕ) (mode : Kept) → slot_at slots s ≡ Some mode → is_live (shown st w slots) s ≡ true
is_live_at st w slots s mode e = live_is st w slots s ∙ ap is_some e

pub some_live : (st : Stored) (w : Option ℕ) (slots : Slots) (s : ℕ) → IsSome (slot_at slots s) → is_live (shown st w slots) s ≡ true
some_live st w slots s h = live_is st w slots s ∙ h

-- a mode is put in the slot of a session that stands
pub set_alike : (st new : Stored) (w v : Option ℕ) (slots : Slots) (s : ℕ) (old mode : Kept) → slot_at slots s ≡ Some old
    → (q : ℕ) → is_live (shown new v (slice_set slots s (Some mode))) q ≡ is_live (shown st w slots) q
set_alike st new w v slots s old mode is q = live_is new v (slice_set slots s (Some mode)) q ∙ by (cases_eq q s) ∙ sym (live_is st w slots q)
  where
    by : (q ≡ s) ⊎ (q ≡ s → ⊥) → is_some (slot_at (slice_set slots s (Some mode)) q) ≡ is_some (slot_at slots q)
    by (inl e) =
        ap (λ k. is_some (slot_at (slice_set slots s (Some mode)) k)) e ∙ ap is_some (slot_set slots s (Some mode) (slot_within slots s old is))
        ∙ sym (ap (λ k. is_some (slot_at slots k)) e ∙ ap is_some is)
    by (inr ne) = ap is_some (slot_beside slots s q (Some mode) ne)

-- what is in a slot is no matter of the others
pub others_stay : (st : Stored) (w : Option ℕ) (slots : Slots) (s : ℕ) (slot : Option Kept) → (q : ℕ) → q ≢ s
    → get (shown st w (slice_set slots s slot)).sessions q ≡ get (shown st w slots).sessions q
others_stay st w slots s slot q ne =
    session_at st w (slice_set slots s slot) q ∙ ap (option_map (session_of st w q)) (slot_beside slots s q slot ne) ∙ sym (session_at st w slots q)

pub set_beside : (st new : Stored) (w v : Option ℕ) (slots : Slots) (s : ℕ) (slot : Option Kept) → (q : ℕ) → q ≢ s
    → is_live (shown new v (slice_set slots s slot)) q ≡ is_live (shown st w slots) q
set_beside st new w v slots s slot q ne = live_is new v (slice_set slots s slot) q ∙ ap is_some (slot_beside slots s q slot ne) ∙ sym (live_is st w slots q)

pub set_there : (st : Stored) (w : Option ℕ) (slots : Slots) (s : ℕ) (slot : Option Kept) → s < length slots → is_live (shown st w (slice_set slots s slot)) s ≡ is_some slot
set_there st w slots s slot within = live_is st w (slice_set slots s slot) s ∙ ap is_some (slot_set slots s slot within)

-- no reader is left of a session that does not stand, after a call of one that stood or is made
pub readers_kept : (st new : Stored) (slots : Slots) (s : ℕ) (slot : Option Kept) → s < length slots → ((q : ℕ) → q ≢ s → get new.readers q ≡ get st.readers q)
    → ((q : ℕ) → slot_at slots q ≡ None → get st.readers q ≡ None) → (slot ≡ None → get new.readers s ≡ None)
    → (q : ℕ) → slot_at (slice_set slots s slot) q ≡ None → get new.readers q ≡ None
readers_kept st new slots s slot within others before gone q none = by (cases_eq q s)
  where
    by : (q ≡ s) ⊎ (q ≡ s → ⊥) → get new.readers q ≡ None
    by (inl e) =
        let there : slot_at (slice_set slots s slot) q ≡ slot = ap (slot_at (slice_set slots s slot)) e ∙ slot_set slots s slot within in
        ap (get new.readers) e ∙ gone (sym there ∙ none)
    by (inr ne) = others q ne ∙ before q (sym (slot_beside slots s q slot ne) ∙ none)

-- ---- the making and the end of sessions

pub makes : (st : Stored) (w : Option ℕ) (slots : Slots) (s : ℕ) → length slots ≡ 64 → s < 64 → slot_at slots s ≡ None → ((k : ℕ) → k < s → IsSome (slot_at slots k))
    → get st.readers s ≡ None → MakesSession (shown st w slots) (Ok s) (shown st w (slice_set slots s (Some fresh)))
makes st w slots s sized within free least none =
    let there : s < length slots = omega arith in
    (record { free = not_live st w slots s free; least = λ k lt. some_live st w slots k (least k lt) }, within, made st w slots s there none)

pub makes_none : (st : Stored) (w : Option ℕ) (slots : Slots) → ((k : ℕ) → k < 64 → IsSome (slot_at slots k))
    → MakesSession (shown st w slots) (Err (Exceeded limit.Sessions)) (shown st w slots)
makes_none st w slots full = (inl (λ k lt. some_live st w slots k (full k lt), refl), refl)

pub drops : (st new : Stored) (w v : Option ℕ) (slots : Slots) (s : ℕ) (mode : Kept) → slot_at slots s ≡ Some mode
    → shown new v (slice_set slots s None) ≡ without_session (shown st w slots) s → DropsSession (shown st w slots) s (shown new v (slice_set slots s None))
drops st new w v slots s mode is leaves = record { session = session_of st w s mode; stands = stands st w slots s mode is; leaves = leaves }

-- ---- without sessions

none_at : (n q : ℕ) → slot_at (kept_in (replicate n None)) q ≡ None
none_at zero q = refl
none_at (suc n) zero = refl
none_at (suc n) (suc q) = none_at n q

pub nobody_stands : (st : Stored) (w : Option ℕ) (q : ℕ) → is_live (shown st w (kept_in no_slots)) q ≡ false
nobody_stands st w q = not_live st w (kept_in no_slots) q (none_at 64 q)

pub no_sessions : (st : Stored) (w : Option ℕ) → sessions_of st w (kept_in no_slots) ≡ empty
no_sessions st w = same_map nat_cmp_total nat_cmp-IsAntisymmetric _ _
    (λ q. session_at st w (kept_in no_slots) q ∙ ap (option_map (session_of st w q)) (none_at 64 q) ∙ sym (get-empty {X = Session} nat_cmp q))

pub opens : (db : Database) (st : Stored) → IsOpened db st → shown st None (kept_in no_slots) ≡ opened db
opens db st h = λ i. record { commits = h.commits i; last = h.holds i; writer = None; sessions = no_sessions st None i }

pub closes : (st new : Stored) (w : Option ℕ) (slots : Slots) → new ≡ closed st → shown new None (kept_in no_slots) ≡ without_sessions (shown st w slots)
closes st new w slots e =
    let sessions = no_sessions new None in
    λ i. record { commits = (e i).commits; last = database_of (e i).last; writer = None; sessions = sessions i }

nobody : (s : ℕ) (f : Found) (m : FinMap nat_cmp Found) → m ≡ empty → get m s ≡ Some f → ⊥
nobody s f m e there =
    let none : get m s ≡ None = ap (λ y. get y s) e ∙ get-empty {X = Found} nat_cmp s in
    let bad : Some f ≡ None = sym there ∙ none in cc

pub orderly_alone : (st : Stored) → st.readers ≡ empty → st.working ≡ st.last → IsOrderly st None
orderly_alone st e working = record {
  current = working;
  no_later = λ s f there. absurd (nobody s f st.readers e there);
  latest = λ s f there number. absurd (nobody s f st.readers e there);
}

pub none_read : (st : Stored) → st.readers ≡ empty → (q : ℕ) → get st.readers q ≡ None
none_read st e q = ap (λ y. get y q) e ∙ get-empty {X = Found} nat_cmp q

reserved_opening : (sound : Type 0) (k m : ℕ) (e : StoreError) → MayFail sound k m Never e → sound → IsReserved (refused_by e)
reserved_opening sound k m e h is = reserved sound k m Never e h is (λ bad. bad) (λ bad. bad)

pub opening_refused : (sound : Type 0) (k m : ℕ) (e : StoreError) (r : Refusal) → r ≡ refused_by e → MayFail sound k m Never e → sound → IsReserved r
opening_refused sound k m e r is h there = subst IsReserved (sym is) (reserved_opening sound k m e h there)

-- for want of memory or by the device alone: opening reaches no limit
stops_opening : (sound : Type 0) (k m : ℕ) (e : StoreError) → MayFail sound k m Never e → sound → StopsFlush (refused_by e)
stops_opening sound k m store.Memory h there = tt
stops_opening sound k m store.Device h there = tt
stops_opening sound k m store.Damaged h there = absurd (h there)
stops_opening sound k m (store.Exceeded which) h there = absurd h

pub opening_stopped : (sound : Type 0) (k m : ℕ) (e : StoreError) (r : Refusal) → r ≡ refused_by e → MayFail sound k m Never e → sound → StopsFlush r
opening_stopped sound k m e r is h there = subst StopsFlush (sym is) (stops_opening sound k m e h there)

-- an error that is shown as damage is damage
pub damaged_by : (e : StoreError) (refusal : Refusal) → refusal ≡ refused_by e → refusal ≡ Damaged → e ≡ store.Damaged
damaged_by store.Memory refusal by is = absurd (cc (by, is))
damaged_by store.Device refusal by is = absurd (cc (by, is))
damaged_by store.Damaged refusal by is = refl
damaged_by (store.Exceeded which.Pages) refusal by is = absurd (cc (by, is))
damaged_by (store.Exceeded which.Private) refusal by is = absurd (cc (by, is))
damaged_by (store.Exceeded which.Kept) refusal by is = absurd (cc (by, is))
damaged_by (store.Exceeded which.Record) refusal by is = absurd (cc (by, is))
damaged_by (store.Exceeded which.Key) refusal by is = absurd (cc (by, is))
