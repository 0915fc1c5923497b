-- A gate that is to be shut, behind pages that stand in their places.
use Rattle.std.proofs.Common.{◌≡◌, ◌≢◌, ◌∙◌, ℕ, ◌*◌, ◌<◌, ◌≤◌, List, [], ◌∷◌, length, get_or, refl, sym, ap, inl, inr, arith}
use Rattle.std.specs.Prelude.{◌⊎◌, Bool, IsTrue, Result, Ok, Err, OnOk}
use Rattle.std.proofs.lemmas.Bool.{cases_eq}
use Rattle.disk.specs.Contents.{resized, IsEitherLength}
use Rattle.disk.specs.Crashes.{Bytes, Always, Only}
use Rattle.pagefile.specs.Parts.{gate_part}
use Rattle.journal.specs.Parts.{place, ChangesOnly}
use Rattle.journal.specs.Steps.{KeepsPlaces}
use Rattle.journal.specs.Versions.{Version, IsOpen, IsShut, IsBoth, OneOf, IsAmong, IsCommittable}
use Rattle.journal.proofs.Finding.{gate_is}
use Rattle.journal.proofs.States.{on_disk, among_open, among_both, gate_one, place_gate}
use Rattle.journaled_file.specs.Shown.{IsAtRest, IsJournaled, IsUnshut, IsShutting}
use Rattle.journaled_file.proofs.Laying.{laid_none}
use Rattle.journaled_file.proofs.Showing.{cut_at_rest}

pub open_unshut : (v : Version) (c : Bytes) → IsOpen v c → IsUnshut v c
open_unshut v c o = record { ready = o.ready; places = λ shut. absurd (shut o.gate) }

pub both_unshut : (v : Version) (c : Bytes) → IsBoth v v c → IsUnshut v c
both_unshut v c b = record { ready = b.ready; places = λ shut. b.places }

pub unshut_among : (x y v : Version) → OneOf x y v → (c : Bytes) → IsUnshut v c → IsAmong x y c
unshut_among x y v is c u = by (cases_eq (get_or c 24 0) 1)
  where
    gate : gate_part c ≡ get_or c 24 0 ∷ []
    gate = gate_is c u.ready.size.some

    by : (get_or c 24 0 ≡ 1) ⊎ (get_or c 24 0 ≢ 1) → IsAmong x y c
    by (inl one) = among_open x y v is c (record { gate = gate ∙ ap (λ (k : ℕ). k ∷ []) one; ready = u.ready })
    by (inr other) = among_both x y v v is is c (record { places = u.places (λ e. other (gate_one c (get_or c 24 0) 1 gate e)); ready = u.ready })

-- all images stand in their places
pub all_put : (honest durable : Bool) (images : List (ℕ × List ℕ)) (count : ℕ) (file : Bytes) (outcomes : Bytes → Type 0) (v : Version)
    → IsJournaled honest durable images (length images) count file outcomes v → IsShutting honest durable count file outcomes v
all_put honest durable images count file outcomes v j = record {
  many = j.many;
  some = j.some;
  room = j.room;
  pages = λ h n less. sym (laid_none images (place file) n) ∙ j.pages h n less;
  unshut = λ d h c left. open_unshut v c (j.opened d h c left);
}

-- the file as it reads has the version in its places and in its journal
shutting_both : (honest durable : Bool) (count : ℕ) (file : Bytes) (outcomes : Bytes → Type 0) (v : Version)
    → IsShutting honest durable count file outcomes v → IsTrue honest → IsUnshut v file → IsBoth v v file
shutting_both honest durable count file outcomes v s h u = record {
  places = record {
    size = record { some = u.ready.size.some; long = omega (arith, u.ready.size.long); even = u.ready.size.even };
    some = u.ready.some;
    pages = λ n less. s.pages h n (omega (arith, less, s.many));
  };
  ready = u.ready;
}

-- and so does all that a crash leaves once it is on the medium
pub synced_both : (honest durable : Bool) (count : ℕ) (file : Bytes) (outcomes left : Bytes → Type 0) (v : Version)
    → IsShutting honest durable count file outcomes v → IsTrue durable → IsTrue honest → outcomes file → Only file left
    → Always left (IsBoth v v)
synced_both honest durable count file outcomes left v s d h there only =
    on_disk (IsBoth v v) file file left refl only (shutting_both honest durable count file outcomes v s h (s.unshut d h file there))

-- a call that changes nothing
pub shutting_read : (honest durable : Bool) (count : ℕ) (old new : Bytes) (left left_new : Bytes → Type 0) (v : Version)
    → IsShutting honest durable count old left v → (IsTrue honest → new ≡ old) → (IsTrue durable → (c : Bytes) → left_new c → left c)
    → IsShutting honest durable count new left_new v
shutting_read honest durable count old new left left_new v s same fewer = record {
  many = s.many;
  some = s.some;
  room = λ h. let room = s.room h in let size = ap (λ (l : Bytes). length l) (same h) in omega (arith, room, size);
  pages = λ h n less. ap (λ (l : Bytes). place l n) (same h) ∙ s.pages h n less;
  unshut = λ d h c left. s.unshut d h c (fewer d c left);
}

module _ (honest durable : Bool) (old mid new : Bytes) (left left_mid left_new : Bytes → Type 0)
    (same : IsTrue honest → mid ≡ old) (change : IsTrue honest → 4096 ≤ length mid → ChangesOnly 24 1 mid new)
    (both : (count : ℕ) (v : Version) → IsShutting honest durable count old left v → IsTrue durable → IsTrue honest → Always left_mid (IsBoth v v)) where
  sized : (count : ℕ) (v : Version) → IsShutting honest durable count old left v → IsTrue honest → 4096 * count ≤ length mid
  sized count v s h = let room = s.room h in let size = ap (λ (l : Bytes). length l) (same h) in omega (arith, room, size)

  written : (count : ℕ) (v : Version) → IsShutting honest durable count old left v → IsTrue honest → ChangesOnly 24 1 mid new
  written count v s h = let size = sized count v s h in change h (omega (arith, size, s.some))

  room_then : (count : ℕ) (v : Version) → IsShutting honest durable count old left v → IsTrue honest → 4096 * count ≤ length new
  room_then count v s h = let size = sized count v s h in let long = (written count v s h).size in omega (arith, size, long)

  pages_then : (count : ℕ) (v : Version) → IsShutting honest durable count old left v → IsTrue honest → (n : ℕ) → n < count → place new n ≡ v.pages n
  pages_then count v s h n less =
      let size = sized count v s h in
      place_gate n mid new (written count v s h) (omega (arith, size, less)) ∙ ap (λ (l : Bytes). place l n) (same h) ∙ s.pages h n less

  -- the gate was shut
  pub shut_rest : {E : Type 0} (result : Result (Unit {0}) E)
      → (IsTrue durable → IsTrue honest → (x y : Version) → Always left_mid (IsBoth x y) → OnOk result (Always left_new (IsShut x)))
      → OnOk result (IsTrue honest → gate_part new ≡ 0 ∷ [])
      → OnOk result ((count : ℕ) (v : Version) → IsShutting honest durable count old left v → IsAtRest honest durable count new left_new v)
  shut_rest (Ok done) shut closed = λ count v s. record {
    many = s.many;
    some = s.some;
    room = room_then count v s;
    pages = pages_then count v s;
    gate = closed;
    shut = λ d h. shut d h v v (both count v s d h);
  }
  shut_rest (Err e) shut closed = tt

  -- or it was not, and may hold anything
  pub shut_left : (count : ℕ) (v : Version) → IsShutting honest durable count old left v
      → (IsTrue durable → Always left_mid (IsBoth v v) → Always left_new (IsBoth v v)) → IsShutting honest durable count new left_new v
  shut_left count v s keeps = record {
    many = s.many;
    some = s.some;
    room = room_then count v s;
    pages = pages_then count v s;
    unshut = λ d h c left. both_unshut v c (keeps d (both count v s d h) c left);
  }

-- the pages of the old version, whether a commit over it was carried out or not
pub places_stay : (honest durable : Bool) (set : List (ℕ × List ℕ)) (count was : ℕ) (old mid new : Bytes) (left : Bytes → Type 0) (v : Version)
    → IsAtRest honest durable was old left v → IsCommittable v set count → IsTrue honest
    → (IsTrue honest → 1 ≤ count → KeepsPlaces count old mid) → (IsTrue honest → 4096 ≤ length mid → ChangesOnly 24 1 mid new)
    → (n : ℕ) → n < was → place new n ≡ v.pages n
places_stay honest durable set count was old mid new left v r may h places change n less =
    let room = r.room h in
    let kept = places h may.some in
    let gate = change h (omega (arith, room, r.some, kept.no_shorter)) in
    place_gate n mid new gate (omega (arith, room, less, kept.no_shorter))
    ∙ kept.places n (omega (arith, less, r.many, may.grows)) (omega (arith, room, less)) ∙ r.pages h n less

pub places_staged : (honest durable : Bool) (set : List (ℕ × List ℕ)) (count was : ℕ) (old mid : Bytes) (left : Bytes → Type 0) (v : Version)
    → IsAtRest honest durable was old left v → IsCommittable v set count → IsTrue honest
    → (IsTrue honest → 1 ≤ count → KeepsPlaces count old mid) → (n : ℕ) → n < was → place mid n ≡ v.pages n
places_staged honest durable set count was old mid left v r may h places n less =
    let room = r.room h in
    (places h may.some).places n (omega (arith, less, r.many, may.grows)) (omega (arith, room, less)) ∙ r.pages h n less

-- a file that was to be cut to its pages
pub cut_left : (honest durable : Bool) (count : ℕ) (old new : Bytes) (left left_new : Bytes → Type 0) (v : Version)
    → IsAtRest honest durable count old left v → (IsTrue honest → IsEitherLength (4096 * count) old new)
    → (IsTrue durable → IsTrue honest → Always left_new (IsShut v)) → IsAtRest honest durable count new left_new v
cut_left honest durable count old new left left_new v r cut shut = record {
  many = r.many;
  some = r.some;
  room = λ h. (by (cut h)).room h;
  pages = λ h. (by (cut h)).pages h;
  gate = λ h. (by (cut h)).gate h;
  shut = shut;
}
  where
    by : (new ≡ old) ⊎ (new ≡ resized old (4096 * count)) → IsAtRest honest durable count new left_new v
    by (inr is) = cut_at_rest honest durable count old new left left_new v r (λ h. is) shut
    by (inl same) = record {
      many = r.many;
      some = r.some;
      room = λ h. let room = r.room h in let size = ap (λ (l : Bytes). length l) same in omega (arith, room, size);
      pages = λ h n less. ap (λ (l : Bytes). place l n) same ∙ r.pages h n less;
      gate = λ h. ap (λ (l : Bytes). gate_part l) same ∙ r.gate h;
      shut = shut;
    }
