-- What is kept of sessions, in a list with a place for each number.
use Rattle.std.proofs.Common.{◌≡◌, ◌≢◌, ◌⊎◌, ℕ, zero, suc, ◌<◌, true, false, cond, List, [], ◌∷◌, length, map, Option, Some, None, refl, sym, ap, subst, ◌∙◌, inl, inr, is_some, arith}
use Rattle.std.proofs.lemmas.Bool.{cases_eq}
use Rattle.std.proofs.lemmas.Option.{slice_get_within}
use Rattle.std.specs.Prelude.{slice_get, slice_set, replicate, IsSome}
use Rattle.std.specs.Option.{option_map}
use Rattle.std.specs.FinMap.{get, insert}
use Rattle.session_definitions.specs.World.{is_session}
use Rattle.store.specs.Contents.{Contents}
use Rattle.store.specs.Stored.{Found, SameButMark, Stored, begun}
use Rattle.transactions.specs.Moves.{IsClosedIn}
use Rattle.transactions.specs.Shown.{Kept, closed, no_unnamed, none_open, read_by, slot_at}
use Rattle.transactions.proofs.Orders.{begun_by, newest, same}
use Rattle.transactions.proofs.Maps.{get_here}
use Rattle.transactions.proofs.SlotLemmas.{got_beside, got_set}
use Rattle.transactions.proofs.Steps.{found_by, read_once}
use Rattle.transactions.specs.Orderly.{IsOrderly}
use Rattle.cursors.specs.declared.held.Cursors.{Cursors}
use Rattle.cursors.specs.declared.cursor.OpenCursor.{OpenCursor}
use Rattle.cursors.specs.ByName.{FitsIf, IsShut, StandsOver, cursor_if, declared_of, opened_of}
use Rattle.cursors.proofs.Declarations.{shut_fit, shut_opened}
use Rattle.sessions.specs.declared.slots.Slot.{Slot}
use Rattle.sessions.specs.Held.{FitsIn, Holds, HoldsIn}
use Rattle.sessions.specs.Numbers.{Held, held_at, in_place, kept_if, kept_in, kept_of, no_slots}

-- ---- lists

map_get : {A B : Type 0} (f : A → B) (xs : List A) (i : ℕ) → slice_get (map f xs) i ≡ option_map f (slice_get xs i)
map_get f [] i = refl
map_get f (x ∷ xs) zero = refl
map_get f (x ∷ xs) (suc i) = map_get f xs i

map_set : {A B : Type 0} (f : A → B) (xs : List A) (i : ℕ) (x : A) → map f (slice_set xs i x) ≡ slice_set (map f xs) i (f x)
map_set f [] i x = refl
map_set f (y ∷ xs) zero x = refl
map_set f (y ∷ xs) (suc i) x = ap (λ rest. f y ∷ rest) (map_set f xs i x)

pub set_twice : {A : Type 0} (xs : List A) (i : ℕ) (x y : A) → slice_set (slice_set xs i x) i y ≡ slice_set xs i y
set_twice [] i x y = refl
set_twice (z ∷ xs) zero x y = refl
set_twice (z ∷ xs) (suc i) x y = ap (λ rest. z ∷ rest) (set_twice xs i x y)

-- ---- what is kept

pub kept_at : (held : Held) (s : ℕ) → slot_at (kept_in held) s ≡ kept_if (held_at held s)
kept_at held s = ap (λ o. elim_slot o) (map_get kept_if held s) ∙ by (slice_get held s)
  where
    elim_slot : Option (Option Kept) → Option Kept
    elim_slot None = None
    elim_slot (Some slot) = slot

    by : (o : Option (Option Slot)) → elim_slot (option_map kept_if o) ≡ kept_if (in_place o)
    by None = refl
    by (Some slot) = refl

pub kept_here : (held : Held) (s : ℕ) (slot : Slot) → held_at held s ≡ Some slot → slot_at (kept_in held) s ≡ Some (kept_of slot)
kept_here held s slot e = kept_at held s ∙ ap kept_if e

pub kept_none : (held : Held) (s : ℕ) → held_at held s ≡ None → slot_at (kept_in held) s ≡ None
kept_none held s e = kept_at held s ∙ ap kept_if e

pub kept_set : (held : Held) (s : ℕ) (slot : Option Slot) → kept_in (slice_set held s slot) ≡ slice_set (kept_in held) s (kept_if slot)
kept_set held s slot = map_set kept_if held s slot

pub held_within : (held : Held) (s : ℕ) (slot : Slot) → held_at held s ≡ Some slot → s < length held
held_within held s slot e = by (slice_get held s) refl e
  where
    by : (o : Option (Option Slot)) → slice_get held s ≡ o → in_place o ≡ Some slot → s < length held
    by None is h = absurd (cc)
    by (Some found) is h = slice_get_within held s found is

pub held_set : (held : Held) (s : ℕ) (slot : Option Slot) → s < length held → held_at (slice_set held s slot) s ≡ slot
held_set held s slot within = ap in_place (got_set held s slot within)

pub held_beside : (held : Held) (s q : ℕ) (slot : Option Slot) → q ≢ s → held_at (slice_set held s slot) q ≡ held_at held q
held_beside held s q slot ne = ap in_place (got_beside held s q slot ne)

pub none_held : (n q : ℕ) → held_at (replicate n None) q ≡ None
none_held zero q = refl
none_held (suc n) zero = refl
none_held (suc n) (suc q) = none_held n q

-- ---- cursors

pub shut_kept : (slot : Slot) → IsShut slot.cursors → ((kept_of slot).cursors ≡ none_open) × ((kept_of slot).unnamed ≡ no_unnamed)
shut_kept slot shut =
    (λ i contents. shut_opened contents slot.cursors.declared shut.named i, λ i contents. cursor_if (shut.unnamed i) contents)

pub closed_in : (st : Stored) (w : Option ℕ) (s : ℕ) (o : Option Found) (slot : Slot) → HoldsIn st w s o slot.cursors → IsClosedIn o (kept_of slot)
closed_in st w s None slot shut = shut_kept slot shut
closed_in st w s (Some f) slot stands = tt

pub shut_stands : (cursors : Cursors) (contents : Contents) → IsShut cursors → StandsOver cursors contents
shut_stands cursors contents shut = record {
  named = shut_fit contents cursors.declared shut.named;
  unnamed = subst (λ (cursor : Option OpenCursor). FitsIf cursor contents) (sym shut.unnamed) tt;
}

pub fits_in : (st : Stored) (w : Option ℕ) (s : ℕ) (o : Option Found) (cursors : Cursors) → HoldsIn st w s o cursors → FitsIn st w s o cursors
fits_in st w s None cursors h = tt
fits_in st w s (Some f) cursors h = h

pub shut_fits : (st : Stored) (w : Option ℕ) (s : ℕ) (o : Option Found) (cursors : Cursors) → IsShut cursors → FitsIn st w s o cursors
shut_fits st w s None cursors shut = tt
shut_fits st w s (Some f) cursors shut = shut_stands cursors (read_by st w s f) shut

-- after a call that leaves what is read
pub fits_same : (st new : Stored) (w v : Option ℕ) (s : ℕ) (cursors : Cursors) → SameButMark st new → v ≡ w → Holds st w s cursors
    → FitsIn new v s (get new.readers s) cursors
fits_same st new w v s cursors k e h =
    subst (λ (x : Option ℕ). FitsIn new x s (get new.readers s) cursors) (sym e)
    (subst (λ m. FitsIn new w s (get m s) cursors) (sym k.readers) (by (get st.readers s) h))
  where
    by : (o : Option Found) → HoldsIn st w s o cursors → FitsIn new w s o cursors
    by None shut = tt
    by (Some f) stands = subst (λ (c : Contents). StandsOver cursors (cond (is_session s w) c f.contents)) (sym k.working) stands

-- and after one that begins a transaction, or goes on with one
pub fits_begun : (st new : Stored) (w : Option ℕ) (s : ℕ) (cursors : Cursors) → new ≡ begun st s → Holds st w s cursors → FitsIn new w s (get new.readers s) cursors
fits_begun st new w s cursors e h =
    subst (λ (x : Stored). FitsIn x w s (get x.readers s) cursors) (sym e)
    (begun_by st s (λ x. FitsIn x w s (get x.readers s) cursors)
    (λ f is. fits_in st w s (get st.readers s) cursors h)
    (λ none. shut_fits (record st { readers = insert st.readers s (newest st) }) w s (get (insert st.readers s (newest st)) s) cursors
    (subst (λ o. HoldsIn st w s o cursors) none h)))

-- and where one more is opened, over what it reads then
pub fits_put : (st new : Stored) (w : Option ℕ) (s : ℕ) (old cursors : Cursors) (given : Option OpenCursor) → new ≡ begun st s
    → ((contents : Contents) → StandsOver old contents → FitsIf given contents → StandsOver cursors contents) → FitsIf given (read_once st w s)
    → IsOrderly st w → Holds st w s old → FitsIn new w s (get new.readers s) cursors
fits_put st new w s old cursors given e on fits order h =
    subst (λ (x : Stored). FitsIn x w s (get x.readers s) cursors) (sym e)
    (begun_by st s (λ x. FitsIn x w s (get x.readers s) cursors)
    (λ f is. subst (λ o. FitsIn st w s o cursors) (sym is)
    (on (read_by st w s f) (subst (λ o. HoldsIn st w s o old) is h)
    (subst (λ (contents : Contents). FitsIf given contents) (ap (λ o. read_by st w s (found_by st o)) is) fits)))
    (λ none. subst (λ o. FitsIn (record st { readers = insert st.readers s (newest st) }) w s o cursors) (sym (get_here st.readers s (newest st)))
    (on (read_by st w s (newest st)) (shut_stands old (read_by st w s (newest st)) (subst (λ o. HoldsIn st w s o old) none h))
    (subst (λ (contents : Contents). FitsIf given contents) (ap (λ o. read_by st w s (found_by st o)) none) fits))))

-- after one that ends the transaction, or leaves all
pub gone_fits : (st : Stored) (w : Option ℕ) (s : ℕ) (cursors : Cursors) → get st.readers s ≡ None → FitsIn st w s (get st.readers s) cursors
gone_fits st w s cursors none = subst (λ o. FitsIn st w s o cursors) (sym none) tt

pub ended_fits : (st new : Stored) (w v : Option ℕ) (s : ℕ) (cursors : Cursors) → (get new.readers s ≡ None) ⊎ ((new ≡ st) × (v ≡ w)) → Holds st w s cursors
    → FitsIn new v s (get new.readers s) cursors
ended_fits st new w v s cursors (inl none) h = gone_fits new v s cursors none
ended_fits st new w v s cursors (inr (e, f)) h = fits_same st new w v s cursors (same st new e) f h

-- after a change
pub changed_fits : (st new : Stored) (w v : Option ℕ) (s : ℕ) (cursors : Cursors) → IsShut cursors ⊎ (SameButMark st new × (v ≡ w)) → Holds st w s cursors
    → FitsIn new v s (get new.readers s) cursors
changed_fits st new w v s cursors (inl shut) h = shut_fits new v s (get new.readers s) cursors shut
changed_fits st new w v s cursors (inr (k, f)) h = fits_same st new w v s cursors k f h

-- after a query
pub queried_fits : (st new : Stored) (w : Option ℕ) (s : ℕ) (cursors : Cursors) → (new ≡ begun st s) ⊎ SameButMark st new → Holds st w s cursors
    → FitsIn new w s (get new.readers s) cursors
queried_fits st new w s cursors (inl e) h = fits_begun st new w s cursors e h
queried_fits st new w s cursors (inr k) h = fits_same st new w w s cursors k refl h

-- where what was open fits, so does what is open
pub fits_on : (st : Stored) (w : Option ℕ) (s : ℕ) (old new : Cursors) → ((contents : Contents) → StandsOver old contents → StandsOver new contents) → Holds st w s old
    → FitsIn st w s (get st.readers s) new
fits_on st w s old new on h = by (get st.readers s) h
  where
    by : (o : Option Found) → HoldsIn st w s o old → FitsIn st w s o new
    by None shut = tt
    by (Some f) stands = on (read_by st w s f) stands

-- what is kept is the same
pub kept_alike : (slot : Slot) (cursors : Cursors) → declared_of cursors ≡ declared_of slot.cursors → ((contents : Contents) → opened_of cursors contents ≡ opened_of slot.cursors contents)
    → cursors.unnamed ≡ slot.cursors.unnamed → kept_of (record slot { cursors = cursors }) ≡ kept_of slot
kept_alike slot cursors declared opened unnamed = λ i. record {
  mode = slot.mode;
  declared = declared i;
  cursors = λ contents. opened contents i;
  unnamed = λ contents. cursor_if (unnamed i) contents;
}

-- ---- what is kept of a session that has ended its transaction

pub closed_kept : (slot new : Slot) → new.mode ≡ slot.mode → declared_of new.cursors ≡ declared_of slot.cursors → IsShut new.cursors → kept_of new ≡ closed (kept_of slot)
closed_kept slot new mode declared shut =
    let both = shut_kept new shut in
    λ i. record { mode = mode i; declared = declared i; cursors = both.0 i; unnamed = both.1 i }

-- ---- other sessions

pub holds_beside : (st new : Stored) (w v : Option ℕ) (q : ℕ) (cursors : Cursors) → get new.readers q ≡ get st.readers q
    → ((f : Found) → read_by new v q f ≡ read_by st w q f) → Holds st w q cursors → Holds new v q cursors
holds_beside st new w v q cursors readers reads h = subst (λ o. HoldsIn new v q o cursors) (sym readers) (by (get st.readers q) h)
  where
    by : (o : Option Found) → HoldsIn st w q o cursors → HoldsIn new v q o cursors
    by None shut = shut
    by (Some f) stands = subst (λ (c : Contents). StandsOver cursors c) (sym (reads f)) stands

-- of all sessions, when one is set
pub all_held : (st new : Stored) (w v : Option ℕ) (held : Held) (s : ℕ) (slot : Option Slot) → s < length held
    → ((q : ℕ) → q ≢ s → get new.readers q ≡ get st.readers q) → ((q : ℕ) → q ≢ s → (f : Found) → read_by new v q f ≡ read_by st w q f)
    → ((q : ℕ) (x : Slot) → held_at held q ≡ Some x → Holds st w q x.cursors) → ((x : Slot) → slot ≡ Some x → Holds new v s x.cursors)
    → (q : ℕ) (x : Slot) → held_at (slice_set held s slot) q ≡ Some x → Holds new v q x.cursors
all_held st new w v held s slot within readers reads before own q x is = by (cases_eq q s)
  where
    by : (q ≡ s) ⊎ (q ≡ s → ⊥) → Holds new v q x.cursors
    by (inl e) =
        let there : slot ≡ Some x = sym (held_set held s slot within) ∙ ap (held_at (slice_set held s slot)) (sym e) ∙ is in
        subst (λ k. Holds new v k x.cursors) (sym e) (own x there)
    by (inr ne) = holds_beside st new w v q x.cursors (readers q ne) (reads q ne) (before q x (sym (held_beside held s q slot ne) ∙ is))

-- where no session stands
pub nobody_held : {X : Type 0} (held : Held) (q : ℕ) (slot : Slot) → held ≡ no_slots → held_at held q ≡ Some slot → X
nobody_held held q slot e is = let bad : None ≡ Some slot = sym (ap (λ (h : Held). held_at h q) e ∙ none_held 64 q) ∙ is in absurd (cc bad)

pub not_held : (slot : Option Slot) → is_some slot ≡ false → slot ≡ None
not_held None e = refl
not_held (Some x) e = cc

-- ---- what is put

pub put_as : (all old : Held) (s : ℕ) (slot : Slot) (kept : Kept) → all ≡ slice_set old s (Some slot) → kept_of slot ≡ kept → kept_in all ≡ slice_set (kept_in old) s (Some kept)
put_as all old s slot kept e k = ap kept_in e ∙ kept_set old s (Some slot) ∙ ap (λ (x : Kept). slice_set (kept_in old) s (Some x)) k

pub put_none : (all old : Held) (s : ℕ) → all ≡ slice_set old s None → kept_in all ≡ slice_set (kept_in old) s None
put_none all old s e = ap kept_in e ∙ kept_set old s None

pub put_back : (all mid old : Held) (s : ℕ) (slot : Slot) → mid ≡ slice_set old s None → all ≡ slice_set mid s (Some slot) → all ≡ slice_set old s (Some slot)
put_back all mid old s slot taken put = put ∙ ap (λ (m : Held). slice_set m s (Some slot)) taken ∙ set_twice old s None (Some slot)

pub some_kept : (held : Held) (s : ℕ) → IsSome (held_at held s) → IsSome (slot_at (kept_in held) s)
some_kept held s h = ap is_some (kept_at held s) ∙ by (held_at held s) ∙ h
  where
    by : (o : Option Slot) → is_some (kept_if o) ≡ is_some o
    by None = refl
    by (Some slot) = refl

pub stands_kept : (held : Held) (s : ℕ) → is_some (slot_at (kept_in held) s) ≡ is_some (held_at held s)
stands_kept held s = ap is_some (kept_at held s) ∙ by (held_at held s)
  where
    by : (o : Option Slot) → is_some (kept_if o) ≡ is_some o
    by None = refl
    by (Some slot) = refl

pub kept_length : (held : Held) → length (kept_in held) ≡ length held
kept_length [] = refl
kept_length (x ∷ held) = let rest = kept_length held in omega (arith, rest)

-- no reader is left of a session that does not stand
pub held_readers : (st new : Stored) (held : Held) (s : ℕ) (slot : Option Slot) → s < length held → ((q : ℕ) → q ≢ s → get new.readers q ≡ get st.readers q)
    → ((q : ℕ) → held_at held q ≡ None → get st.readers q ≡ None) → (slot ≡ None → get new.readers s ≡ None)
    → (q : ℕ) → held_at (slice_set held s slot) q ≡ None → get new.readers q ≡ None
held_readers st new held s slot within others before gone q none = by (cases_eq q s)
  where
    by : (q ≡ s) ⊎ (q ≡ s → ⊥) → get new.readers q ≡ None
    by (inl e) =
        let there : held_at (slice_set held s slot) q ≡ slot = ap (held_at (slice_set held s slot)) e ∙ held_set held s slot within in
        ap (get new.readers) e ∙ gone (sym there ∙ none)
    by (inr ne) = others q ne ∙ before q (sym (held_beside held s q slot ne) ∙ none)

-- of a new session no cursor is open
pub new_holds : (st : Stored) (w : Option ℕ) (s : ℕ) (slot x : Slot) → get st.readers s ≡ None → IsShut slot.cursors → Some slot ≡ Some x → Holds st w s x.cursors
new_holds st w s slot x none shut e =
    let same : slot ≡ x = cc in
    subst (λ o. HoldsIn st w s o x.cursors) (sym none) (subst (λ (y : Slot). IsShut y.cursors) same shut)

pub kept_holds : (st : Stored) (w : Option ℕ) (s : ℕ) (slot x : Slot) → Holds st w s slot.cursors → Some slot ≡ Some x → Holds st w s x.cursors
kept_holds st w s slot x h e = let same : slot ≡ x = cc in subst (λ (y : Slot). Holds st w s y.cursors) same h

pub is_held : (slot : Option Slot) → is_some slot ≡ true → (x : Slot) × (slot ≡ Some x)
is_held None e = absurd (cc e)
is_held (Some x) e = (x, refl)
