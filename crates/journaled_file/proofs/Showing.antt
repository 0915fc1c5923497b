-- What the steps of a file leave of what it shows.
use Rattle.std.proofs.Common.{◌≡◌, ◌∙◌, ℕ, ◌+◌, ◌-◌, ◌*◌, ◌<◌, ◌≤◌, List, take, drop, length, refl, sym, ap, subst, inl, inr, arith}
use Rattle.std.specs.Prelude.{◌⊎◌, slice_range, replicate, Bool, IsTrue, Result, Ok, Err, OnOk}
use Rattle.std.proofs.lemmas.List.{length-take, get_or-take, get_or_append_left}
use Rattle.std.proofs.lemmas.Bool.{cases_lt}
use Rattle.disk.specs.Contents.{resized}
use Rattle.disk.specs.Crashes.{Bytes, Always, IsCut}
use Rattle.disk.proofs.ContentsLemmas.{length_resized}
use Rattle.pagefile.specs.Parts.{gate_part}
use Rattle.journal.specs.Parts.{place, block, shown, kept_size, ChangesOnly}
use Rattle.journal.specs.Steps.{IsPut, KeepsOtherPlaces, KeepsPlaces, LiesWithin, AreAmong}
use Rattle.journal.specs.Versions.{Version, HasPage, IsOpen, IsShut, IsCommittable, committed}
use Rattle.journal.proofs.Finding.{take_take}
use Rattle.journal.proofs.Ranges.{cut_front}
use Rattle.journal.proofs.States.{kept_small, laid_same, place_gate}
use Rattle.journaled_file.specs.Shown.{IsAtRest, IsJournaled}
use Rattle.journaled_file.proofs.Laying.{laid_more, laid_torn, has_part}

-- each page of a part lies within the file
pub part_within : (honest durable : Bool) (images : List (ℕ × List ℕ)) (from end count : ℕ) (file : Bytes) (outcomes : Bytes → Type 0)
    (v : Version) → IsJournaled honest durable images from count file outcomes v → IsTrue honest → LiesWithin (slice_range images from end) file
part_within honest durable images from end count file outcomes v j h n has =
    let low = j.within n (has_part images from end n has) in
    let room = j.room h in omega (arith, low, room)

pub part_among : (images set : List (ℕ × List ℕ)) (from end : ℕ) → set ≡ images → AreAmong (slice_range images from end) set
part_among images set from end is n has = subst (HasPage n) (sym is) (has_part images from end n has)

-- a part of the images put in its places
pub put_journaled : (honest durable : Bool) (images : List (ℕ × List ℕ)) (from end count : ℕ) (old new : Bytes) (left left_new : Bytes → Type 0)
    (v : Version) → from ≤ end → IsJournaled honest durable images from count old left v
    → (IsTrue honest → LiesWithin (slice_range images from end) old → IsPut (slice_range images from end) old new)
    → (IsTrue durable → IsTrue honest → Always left_new (IsOpen v)) → IsJournaled honest durable images end count new left_new v
put_journaled honest durable images from end count old new left left_new v order j put opened =
    let within = part_within honest durable images from end count old left v j in
    record {
      set = j.set;
      many = j.many;
      some = j.some;
      rising = j.rising;
      within = j.within;
      room = λ h. let size = (put h (within h)).size in let room = j.room h in omega (arith, size, room);
      pages = λ h n less.
          let room = j.room h in
          laid_more images from end (place old) (place new) n order ((put h (within h)).places n (omega (arith, room, less))) ∙ j.pages h n less;
      opened = opened;
    }

-- or torn there
pub left_journaled : (honest durable : Bool) (images : List (ℕ × List ℕ)) (from end count : ℕ) (old new : Bytes) (left left_new : Bytes → Type 0)
    (v : Version) → IsJournaled honest durable images from count old left v
    → (IsTrue honest → LiesWithin (slice_range images from end) old → KeepsOtherPlaces (slice_range images from end) old new)
    → (IsTrue durable → IsTrue honest → Always left_new (IsOpen v)) → IsJournaled honest durable images from count new left_new v
left_journaled honest durable images from end count old new left left_new v j kept opened =
    let within = part_within honest durable images from end count old left v j in
    record {
      set = j.set;
      many = j.many;
      some = j.some;
      rising = j.rising;
      within = j.within;
      room = λ h. let size = (kept h (within h)).size in let room = j.room h in omega (arith, size, room);
      pages = λ h n less.
          let room = j.room h in
          laid_torn images from end (place old) (place new) n (λ none. (kept h (within h)).places n none (omega (arith, room, less))) ∙ j.pages h n less;
      opened = opened;
    }

-- a commit over a version that stands in its places
pub now_journaled : {E : Type 0} (honest durable : Bool) (set : List (ℕ × List ℕ)) (count : ℕ) (result : Result (Unit {0}) E) (old mid new : Bytes)
    (left left_new : Bytes → Type 0)
    → (IsTrue durable → IsTrue honest → (v : Version) → IsCommittable v set count → Always left (IsShut v)
    → OnOk result (Always left_new (IsOpen (committed v set count))))
    → (IsTrue honest → 4096 * (count + 1 + length set) ≤ length mid) → (IsTrue honest → 1 ≤ count → KeepsPlaces count old mid)
    → (IsTrue honest → 4096 ≤ length mid → ChangesOnly 24 1 mid new)
    → OnOk result ((was : ℕ) (v : Version) → IsAtRest honest durable was old left v → IsCommittable v set count
    → IsJournaled honest durable set 0 count new left_new (committed v set count))
now_journaled honest durable set count (Ok done) old mid new left left_new opened long places change = λ was v r may. record {
  set = refl;
  many = refl;
  some = may.some;
  rising = may.rising;
  within = may.within;
  room = λ h. let room = long h in let size = (change h (omega (arith, room))).size in omega (arith, room, size);
  pages = λ h n less.
      let room = long h in
      let gate : place new n ≡ place mid n = place_gate n mid new (change h (omega (arith, room))) (omega (arith, room, less)) in
      laid_same set (place new) v.pages n (by was v r may h n less gate (cases_lt n v.count));
  opened = λ d h. opened d h v may (r.shut d h);
}
  where
    by : (was : ℕ) (v : Version) → IsAtRest honest durable was old left v → IsCommittable v set count → IsTrue honest → (n : ℕ) → n < count
        → place new n ≡ place mid n → (n < v.count) ⊎ (v.count ≤ n) → (place new n ≡ v.pages n) ⊎ HasPage n set
    by was v r may h n less gate (inl there) =
        let room = r.room h in
        inl (gate ∙ (places h may.some).places n less (omega (arith, room, there, r.many)) ∙ r.pages h n (omega (arith, there, r.many)))
    by was v r may h n less gate (inr later) = inr (may.covered n later less)
now_journaled honest durable set count (Err e) old mid new left left_new opened long places change = tt

-- a file cut to its pages
cut_resized : (old : Bytes) (len : ℕ) → len ≤ length old → IsCut len old (resized old len)
cut_resized old len less = record {
  size = inr (length_resized old len);
  front = λ i a b d.
      let size : length (take len old) ≡ len = length-take len old ∙ omega (arith, less) in
      get_or_append_left (take len old) (replicate (len - length old) 0) 0 i (omega (arith, size, d)) ∙ get_or-take len old i 0 d;
}

pub cut_at_rest : (honest durable : Bool) (count : ℕ) (old new : Bytes) (left left_new : Bytes → Type 0) (v : Version)
    → IsAtRest honest durable count old left v → (IsTrue honest → new ≡ resized old (4096 * count))
    → (IsTrue durable → IsTrue honest → Always left_new (IsShut v)) → IsAtRest honest durable count new left_new v
cut_at_rest honest durable count old new left left_new v r cut shut = record {
  many = r.many;
  some = r.some;
  room = λ h. let size = ap (λ (l : Bytes). length l) (cut h) ∙ length_resized old (4096 * count) in omega (arith, size);
  pages = λ h n less.
      let room = r.room h in
      let small = kept_small n in
      let front = cut_front (4096 * count) (4096 * count) old (resized old (4096 * count)) (omega arith) room (cut_resized old (4096 * count) room) in
      ap (λ (l : Bytes). place l n) (cut h) ∙ front.front (4096 * n) (4096 * n + kept_size n) (omega arith) (omega (arith, small, less)) ∙ r.pages h n less;
  gate = λ h.
      let room = r.room h in
      let front = cut_front (4096 * count) (4096 * count) old (resized old (4096 * count)) (omega arith) room (cut_resized old (4096 * count) room) in
      ap (λ (l : Bytes). gate_part l) (cut h) ∙ front.front 24 25 (omega arith) (omega (arith, r.some)) ∙ r.gate h;
  shut = shut;
}

-- what a version keeps of a page, in the block of the page
pub shown_block : (c : Bytes) (n : ℕ) → shown n (block c n) ≡ place c n
shown_block c n =
    let whole : 4096 * n + 4096 - 4096 * n ≡ 4096 = omega arith in
    let kept : 4096 * n + kept_size n - 4096 * n ≡ kept_size n = omega arith in
    ap (λ (k : ℕ). take (kept_size n) (take k (drop (4096 * n) c))) whole ∙ take_take (kept_size n) 4096 (drop (4096 * n) c) (kept_small n)
    ∙ sym (ap (λ (k : ℕ). take k (drop (4096 * n) c)) kept)

-- behind a call that changes nothing
pub rest_read : (honest durable : Bool) (count : ℕ) (old new : Bytes) (left left_new : Bytes → Type 0) (v : Version)
    → IsAtRest honest durable count old left v → (IsTrue honest → new ≡ old) → (IsTrue durable → (c : Bytes) → left_new c → left c)
    → IsAtRest honest durable count new left_new v
rest_read honest durable count old new left left_new v r same fewer = record {
  many = r.many;
  some = r.some;
  room = λ h. let room = r.room h in let size = ap (λ (l : Bytes). length l) (same h) in omega (arith, room, size);
  pages = λ h n less. ap (λ (l : Bytes). place l n) (same h) ∙ r.pages h n less;
  gate = λ h. ap (λ (l : Bytes). gate_part l) (same h) ∙ r.gate h;
  shut = λ d h c left. r.shut d h c (fewer d c left);
}
