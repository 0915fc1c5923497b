-- Which sessions stand, and whether a script has them in its places.
use Rattle.std.proofs.Common.{◌≡◌, ◌≢◌, ◌⊎◌, refl, ap, sym, ◌∙◌, ℕ, suc, zero, ◌<◌, ◌≤◌, ◌+◌, add-one, Bool, true, false, [], ◌∷◌, drop, drop-cons, get_or, length, Some, None, inl, inr}
use Rattle.std.specs.Prelude.{slice_get, slice_set}
use Rattle.std.proofs.lemmas.Bool.{cases_eq}
use Rattle.std.proofs.lemmas.List.{drop_all}
use Rattle.std.proofs.lemmas.Option.{slice_get-get_or}
use Rattle.session_definitions.specs.World.{World, is_live}
use Rattle.transactions.proofs.SlotLemmas.{got_set, got_beside}
use Rattle.sessions.specs.declared.core_of.SessionId.{SessionId}
use Rattle.sessions.specs.OfCore.{StandBeside, number_of}
use Rattle.scripts.specs.Settled.{HasNoSession, Places, IsIn, HoldAll}

-- ---- the same sessions stand

pub held_same : (places : Places) (old new : World) → ((k : ℕ) → is_live new k ≡ is_live old k) → HoldAll places old → HoldAll places new
held_same places old new same held = λ k live. held k (sym (same k) ∙ live)

-- ---- a session is made

not_empty : (session : SessionId) → Some None ≡ Some (Some session) → ⊥
not_empty session e = absurd (cc)

moved : (places : Places) (i : ℕ) (session : SessionId) (k : ℕ) → i < length places → get_or places i None ≡ None → IsIn places k → IsIn (slice_set places i (Some session)) k
moved places i session k within empty (IsIn.at_place place other there is) = by (cases_eq place i)
  where
    by : (place ≡ i) ⊎ (place ≡ i → ⊥) → IsIn (slice_set places i (Some session)) k
    by (inl same) = absurd (not_empty other (sym (slice_get-get_or places i None within ∙ ap Some empty) ∙ ap (slice_get places) (sym same) ∙ there))
    by (inr ne) = IsIn.at_place place other (got_beside places i place (Some session) ne ∙ there) is

pub held_made : (places : Places) (i : ℕ) (session : SessionId) (old new : World) → i < length places → get_or places i None ≡ None
    → StandBeside (number_of session) old new → HoldAll places old → HoldAll (slice_set places i (Some session)) new
held_made places i session old new within empty beside held k live = by (cases_eq k (number_of session))
  where
    by : (k ≡ number_of session) ⊎ (k ≡ number_of session → ⊥) → IsIn (slice_set places i (Some session)) k
    by (inl same) = IsIn.at_place i session (got_set places i (Some session) within) (sym same)
    by (inr ne) = moved places i session k within empty (held k (sym (beside k ne) ∙ live))

-- ---- sessions end, one after another

pub held_by_none : (w : World) → HoldAll [] w → HasNoSession w
held_by_none w held k = by (is_live w k) refl
  where
    nowhere : IsIn [] k → ⊥
    nowhere (IsIn.at_place place session there is) = absurd (cc there)

    by : (b : Bool) → is_live w k ≡ b → is_live w k ≡ false
    by true e = absurd (nowhere (held k e))
    by false e = e

-- the first place is empty
after_empty : (others : Places) (k : ℕ) → IsIn (None ∷ others) k → IsIn others k
after_empty others k (IsIn.at_place zero session there is) = absurd (cc there)
after_empty others k (IsIn.at_place (suc place) session there is) = IsIn.at_place place session there is

-- the first place has another session
unwrapped : (s t : SessionId) → Some (Some s) ≡ Some (Some t) → s ≡ t
unwrapped s t h = cc h

after_other : (session : SessionId) (others : Places) (k : ℕ) → k ≢ number_of session → IsIn (Some session ∷ others) k → IsIn others k
after_other session others k ne (IsIn.at_place zero other there is) = absurd (ne (sym is ∙ sym (ap (λ (s : SessionId). s.number) (unwrapped session other there))))
after_other session others k ne (IsIn.at_place (suc place) other there is) = IsIn.at_place place other there is

-- the session of the first place has ended
ended_first : (session : SessionId) (others : Places) (old new : World) → is_live new (number_of session) ≡ false → StandBeside (number_of session) old new
    → HoldAll (Some session ∷ others) old → HoldAll others new
ended_first session others old new dead beside held k live =
    let ne : k ≢ number_of session = λ same. let stands : is_live new (number_of session) ≡ true = ap (is_live new) (sym same) ∙ live in absurd (cc) in
    after_other session others k ne (held k (sym (beside k ne) ∙ live))

-- a place of the list, and the places after it

pub held_ended : (places : Places) (i : ℕ) (session : SessionId) (old new : World) → i < length places → get_or places i None ≡ Some session
    → is_live new (number_of session) ≡ false → StandBeside (number_of session) old new → HoldAll (drop i places) old → HoldAll (drop (i + 1) places) new
held_ended places i session old new within is dead beside held =
    let split : drop i places ≡ Some session ∷ drop (suc i) places = drop-cons places i None within ∙ ap (λ x. x ∷ drop (suc i) places) is in
    rw add-one (ended_first session (drop (suc i) places) old new dead beside (rw split at held))

pub held_skipped : (places : Places) (i : ℕ) (w : World) → i < length places → get_or places i None ≡ None
    → HoldAll (drop i places) w → HoldAll (drop (i + 1) places) w
held_skipped places i w within is held =
    let split : drop i places ≡ None ∷ drop (suc i) places = drop-cons places i None within ∙ ap (λ x. x ∷ drop (suc i) places) is in
    rw add-one (λ k live. after_empty (drop (suc i) places) k ((rw split at held) k live))

pub held_past : (places : Places) (i : ℕ) (w : World) → length places ≤ i → HoldAll (drop i places) w → HasNoSession w
held_past places i w past held = held_by_none w (rw (drop_all i places past) at held)

-- ---- none stands

pub held_at_first : (places : Places) (w : World) → HasNoSession w → HoldAll places w
held_at_first places w none k live = let dead : is_live w k ≡ false = none k in absurd (cc)
