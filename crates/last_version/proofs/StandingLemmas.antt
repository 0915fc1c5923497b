-- What the steps of a file leave of the version for which it stands.
use Rattle.std.proofs.Common.{◌≡◌, ◌∙◌, ℕ, zero, suc, ◌+◌, ◌*◌, ◌<◌, ◌≤◌, Bool, true, false, List, [], ◌∷◌, length, drop, refl, sym, ap, subst, inl, inr, arith}
use Rattle.std.specs.Prelude.{◌⊎◌, ◌-◌, min, IsTrue, Result, Ok, Err, OnOk, OnErr}
use Rattle.std.proofs.lemmas.Bool.{cases_lt}
use Rattle.std.proofs.lemmas.List.{length-drop}
use Rattle.disk.specs.Crashes.{Bytes, Always}
use Rattle.journal.specs.Parts.{place}
use Rattle.journal.specs.Lists.{IsRising}
use Rattle.journal.specs.Versions.{Version, InPlaces, IsReady, IsOpen, OneOf, IsAmong, laid}
use Rattle.journal.proofs.States.{among_open, among_shut}
use Rattle.journal.proofs.Sets.{laid_all}
use Rattle.journaled_file.specs.Shown.{IsAtRest, IsJournaled, IsUnshut, IsShutting}
use Rattle.journaled_file.proofs.Showing.{rest_read}
use Rattle.journaled_file.proofs.Shutting.{all_put, unshut_among, shutting_read}
use Rattle.last_version.specs.declared.gate.Gate.{Gate}
use Rattle.last_version.specs.declared.gate.Gate.TheVariants.{Shut, Open, Broken}
use Rattle.last_version.specs.Gates.{is_broken}
use Rattle.last_version.specs.Standing.{Stands, version_in}

-- ---- gates

pub open_shut : {A : Type 0} (gate : Gate) → gate ≡ Open → gate ≡ Shut → A
open_shut gate o s = let bad : Open ≡ Shut = sym o ∙ s in cc

pub broken_shut : {A : Type 0} (gate : Gate) → is_broken gate ≡ true → gate ≡ Shut → A
broken_shut gate b s = let bad : false ≡ true = sym (ap is_broken s) ∙ b in cc

pub broken_open : {A : Type 0} (gate : Gate) → is_broken gate ≡ true → gate ≡ Open → A
broken_open gate b o = let bad : false ≡ true = sym (ap is_broken o) ∙ b in cc

pub open_whole : (gate : Gate) → gate ≡ Open → is_broken gate ≡ false
open_whole gate o = ap is_broken o

-- behind a call that shuts the gate, or leaves it open where it was refused
pub shut_whole : {E : Type 0} (result : Result (Unit {0}) E) (old new : Gate) → old ≡ Open → OnOk result (new ≡ Shut) → OnErr result (new ≡ old)
    → is_broken new ≡ false
shut_whole (Ok done) old new o shut same = ap is_broken shut
shut_whole (Err e) old new o shut same = ap is_broken (same ∙ o)

-- what follows where a call was refused
pub on_err : {E A B : Type 0} (result : Result (Unit {0}) E) → (A → B) → OnErr result A → OnErr result B
on_err (Ok done) to has = tt
on_err (Err e) to has = to has

-- what holds whether a call was carried out or not
pub either : {E A : Type 0} (result : Result (Unit {0}) E) → OnOk result A → OnErr result A → A
either (Ok done) has was = has
either (Err e) has was = was

pub on_ok_two : {E A B C : Type 0} (result : Result (Unit {0}) E) → (A → B → C) → OnOk result A → OnOk result B → OnOk result C
on_ok_two (Ok done) to a b = to a b
on_ok_two (Err e) to a b = tt

pub on_err_two : {E A B C : Type 0} (result : Result (Unit {0}) E) → (A → B → C) → OnErr result A → OnErr result B → OnErr result C
on_err_two (Ok done) to a b = tt
on_err_two (Err e) to a b = to a b

-- a gate that is not broken
pub whole_gate : (gate : Gate) → is_broken gate ≡ false → (gate ≡ Shut) ⊎ (gate ≡ Open)
whole_gate Shut e = inl refl
whole_gate Open e = inr refl
whole_gate (Broken cause answered) e = let bad : true ≡ false = e in cc

-- ---- sets of which nothing is left

pub none_left : (k : ℕ) (set : List (ℕ × List ℕ)) → set ≡ [] → drop k set ≡ []
none_left zero set is = is
none_left (suc k) set is = ap (drop (suc k)) is

-- where all are written
pub all_left : (set : List (ℕ × List ℕ)) (k : ℕ) → length set ≤ k → drop k set ≡ []
all_left [] k all = none_left k [] refl
all_left (x ∷ xs) zero all = absurd (omega (arith, all))
all_left (x ∷ xs) (suc k) all = all_left xs k (omega (arith, all))

-- and where some are not
pub some_left : (set : List (ℕ × List ℕ)) (k : ℕ) → k < length set → drop k set ≡ [] → ⊥
some_left set k less none =
    let long = length-drop k set in let short : length (drop k set) ≡ 0 = ap (λ (l : List (ℕ × List ℕ)). length l) none in absurd (omega (arith, less, long, short))

-- how many are left where more are written
pub left_put : (set now : List (ℕ × List ℕ)) (written new most : ℕ) → now ≡ set → new ≡ min (written + most) (length set)
    → length (drop new now) ≡ length (drop written set) - most
left_put set now written new most same put =
    let was = length-drop written set in
    let is = length-drop new now in
    let long = ap (λ (l : List (ℕ × List ℕ)). length l) same in omega (arith, was, is, long, put)

pub laid_empty : (set : List (ℕ × List ℕ)) (k : ℕ) (p : ℕ → List ℕ) (n : ℕ) → set ≡ [] → laid (drop k set) p n ≡ p n
laid_empty set k p n is = ap (λ (s : List (ℕ × List ℕ)). laid s p n) (none_left k set is)

none_rises : (xs : List (ℕ × List ℕ)) → xs ≡ [] → IsRising xs
none_rises xs is i less = let none : length xs ≡ 0 = ap (λ (l : List (ℕ × List ℕ)). length l) is in absurd (omega (arith, less, none))

rest_rises : (k : ℕ) (xs : List (ℕ × List ℕ)) → IsRising xs → IsRising (drop k xs)
rest_rises zero xs rising = rising
rest_rises (suc k) [] rising = rising
rest_rises (suc k) (x ∷ xs) rising = rest_rises k xs (λ i less. rising (suc i) (omega (arith, less)))

-- ---- one version for another with the same pages

places_over : (set : List (ℕ × List ℕ)) (count : ℕ) (p q : ℕ → List ℕ) → ((n : ℕ) → n < count → p n ≡ q n) → (c : Bytes)
    → InPlaces (record { set = set; count = count; pages = p }) c → InPlaces (record { set = set; count = count; pages = q }) c
places_over set count p q same c h = record { size = h.size; some = h.some; pages = λ n less. h.pages n less ∙ same n less }

ready_over : (set : List (ℕ × List ℕ)) (count : ℕ) (p q : ℕ → List ℕ) → ((n : ℕ) → n < count → p n ≡ q n) → (c : Bytes)
    → IsReady (record { set = set; count = count; pages = p }) c → IsReady (record { set = set; count = count; pages = q }) c
ready_over set count p q same c h = record {
  size = h.size;
  some = h.some;
  small = h.small;
  start = h.start;
  list = h.list;
  rising = h.rising;
  images = h.images;
  within = h.within;
  pages = λ n less. h.pages n less ∙ same n less;
}

with_fields : (P : Version → Type 0) (v : Version) (set : List (ℕ × List ℕ)) (count : ℕ) → v.set ≡ set → v.count ≡ count → P v
    → P (record { set = set; count = count; pages = v.pages })
with_fields P v set count is many h =
    subst (λ (s : List (ℕ × List ℕ)). P (record { set = s; count = count; pages = v.pages })) is
    (subst (λ (k : ℕ). P (record { set = v.set; count = k; pages = v.pages })) many h)

-- ---- the version that a file has is one for which it stands

module _ (honest durable : Bool) (gate : Gate) (set : List (ℕ × List ℕ)) (written count : ℕ) (file : Bytes) (outcomes : Bytes → Type 0) (v : Version)
    (h : IsTrue honest) (s : Stands honest durable gate set written count file outcomes v) where
  same_pages : (n : ℕ) → n < count → v.pages n ≡ laid (drop written set) (place file) n
  same_pages n less = sym (s.pages n less)

  rest_now : IsAtRest honest durable count file outcomes v → IsAtRest honest durable count file outcomes (version_in set written count file)
  rest_now r = record {
    many = refl;
    some = r.some;
    room = r.room;
    pages = λ h n less. r.pages h n less ∙ same_pages n less;
    gate = r.gate;
    shut = λ d h c left.
        let all = r.shut d h c left in
        record {
          gate = all.gate;
          places = record {
            size = record { some = all.places.size.some; long = omega (arith, all.places.size.long, s.many); even = all.places.size.even };
            some = r.some;
            pages = λ n less. all.places.pages n (omega (arith, less, s.many)) ∙ same_pages n less;
          };
        };
  }

  journaled_now : IsJournaled honest durable set written count file outcomes v
      → IsJournaled honest durable set written count file outcomes (version_in set written count file)
  journaled_now j = record {
    set = refl;
    many = refl;
    some = j.some;
    rising = j.rising;
    within = j.within;
    room = j.room;
    pages = λ h n less. refl;
    opened = λ d h c left.
        let o = with_fields (λ (u : Version). IsOpen u c) v set count j.set j.many (j.opened d h c left) in
        record { gate = o.gate; ready = ready_over set count v.pages (laid (drop written set) (place file)) same_pages c o.ready };
  }

  shutting_now : v.set ≡ set → IsShutting honest durable count file outcomes v → IsShutting honest durable count file outcomes (version_in set written count file)
  shutting_now is j = record {
    many = refl;
    some = j.some;
    room = j.room;
    pages = λ h n less. j.pages h n less ∙ same_pages n less;
    unshut = λ d h c left.
        let u = with_fields (λ (w : Version). IsUnshut w c) v set count is j.many (j.unshut d h c left) in
        record {
          ready = ready_over set count v.pages (laid (drop written set) (place file)) same_pages c u.ready;
          places = λ shut. places_over set count v.pages (laid (drop written set) (place file)) same_pages c (u.places shut);
        };
  }

  pub stands_now : Stands honest durable gate set written count file outcomes (version_in set written count file)
  stands_now = record {
    many = refl;
    pages = λ n less. refl;
    none = s.none;
    same_set = λ o. refl;
    rest = λ shut. rest_now (s.rest shut);
    journaled = λ o less. journaled_now (s.journaled o less);
    shutting = λ o all. shutting_now (s.same_set o) (s.shutting o all);
  }

-- ---- what a file is that stands for a version

module _ (honest durable : Bool) (gate : Gate) (set : List (ℕ × List ℕ)) (written count : ℕ) (file : Bytes) (outcomes : Bytes → Type 0) (v : Version)
    (s : Stands honest durable gate set written count file outcomes v) (whole : is_broken gate ≡ false) where
  by_gate : {A : Type 0} → (IsAtRest honest durable count file outcomes v → set ≡ [] → A)
      → (IsJournaled honest durable set written count file outcomes v → A)
      → (IsShutting honest durable count file outcomes v → length set ≤ written → A) → A
  by_gate {A} rest journaled shutting = by (whole_gate gate whole) (cases_lt written (length set))
    where
      by : (gate ≡ Shut) ⊎ (gate ≡ Open) → (written < length set) ⊎ (length set ≤ written) → A
      by (inl shut) b = rest (s.rest shut) (s.none shut)
      by (inr o) (inl less) = journaled (s.journaled o less)
      by (inr o) (inr all) = shutting (s.shutting o all) all

  pub stands_room : IsTrue honest → 4096 * count ≤ length file
  stands_room h = by_gate (λ r none. r.room h) (λ j. j.room h) (λ j all. j.room h)

  pub stands_among : (x y : Version) → OneOf x y v → IsTrue durable → IsTrue honest → Always outcomes (IsAmong x y)
  stands_among x y one d h = by_gate
      (λ r none c left. among_shut x y v one c (r.shut d h c left))
      (λ j c left. among_open x y v one c (j.opened d h c left))
      (λ j all c left. unshut_among x y v one c (j.unshut d h c left))

  pub left_rises : IsRising (drop written set)
  left_rises = by_gate (λ r none. none_rises (drop written set) (none_left written set none)) (λ j. rest_rises written set j.rising) (λ j all. none_rises (drop written set) (all_left set written all))

-- ---- the steps

module _ (honest durable : Bool) (gate : Gate) (set : List (ℕ × List ℕ)) (written count : ℕ) (file : Bytes) (outcomes : Bytes → Type 0) (v : Version) where
  -- the gate is shut
  pub rest_stands : gate ≡ Shut → set ≡ [] → IsTrue honest → IsAtRest honest durable count file outcomes v
      → Stands honest durable gate set written count file outcomes v
  rest_stands shut none h r = record {
    many = r.many;
    pages = λ n less. laid_empty set written (place file) n none ∙ r.pages h n less;
    none = λ e. none;
    same_set = λ o. open_shut gate o shut;
    rest = λ e. r;
    journaled = λ o less. open_shut gate o shut;
    shutting = λ o all. open_shut gate o shut;
  }

  -- some of the images stand in their places
  pub journaled_stands : gate ≡ Open → written ≤ length set → IsTrue honest → IsJournaled honest durable set written count file outcomes v
      → Stands honest durable gate set written count file outcomes v
  journaled_stands is most h j = record {
    many = j.many;
    pages = λ n less. j.pages h n less;
    none = λ shut. open_shut gate is shut;
    same_set = λ o. j.set;
    rest = λ shut. open_shut gate is shut;
    journaled = λ o less. j;
    shutting = λ o all.
        let end : written ≡ length set = omega (arith, most, all) in
        all_put honest durable set count file outcomes v (subst (λ (k : ℕ). IsJournaled honest durable set k count file outcomes v) end j);
  }

  -- all do, and the gate is to be shut
  pub shutting_stands : gate ≡ Open → v.set ≡ set → length set ≤ written → IsTrue honest → IsShutting honest durable count file outcomes v
      → Stands honest durable gate set written count file outcomes v
  shutting_stands is same all h j = record {
    many = j.many;
    pages = λ n less. laid_all set written (place file) n all ∙ j.pages h n less;
    none = λ shut. open_shut gate is shut;
    same_set = λ o. same;
    rest = λ shut. open_shut gate is shut;
    journaled = λ o less. absurd (omega (arith, less, all));
    shutting = λ o a. j;
  }

  -- a commit was refused
  pub broken_stands : is_broken gate ≡ true → v.count ≡ count → ((n : ℕ) → n < count → laid (drop written set) (place file) n ≡ v.pages n)
      → Stands honest durable gate set written count file outcomes v
  broken_stands broken many pages = record {
    many = many;
    pages = pages;
    none = λ shut. broken_shut gate broken shut;
    same_set = λ o. broken_open gate broken o;
    rest = λ shut. broken_shut gate broken shut;
    journaled = λ o less. broken_open gate broken o;
    shutting = λ o all. broken_open gate broken o;
  }

-- behind a call that changes nothing
module _ (honest durable : Bool) (gate : Gate) (set : List (ℕ × List ℕ)) (written count : ℕ) (old new : Bytes) (left left_new : Bytes → Type 0) (v : Version)
    (h : IsTrue honest) (same : IsTrue honest → new ≡ old) (fewer : IsTrue durable → (c : Bytes) → left_new c → left c) where
  journaled_read : IsJournaled honest durable set written count old left v → IsJournaled honest durable set written count new left_new v
  journaled_read j = record {
    set = j.set;
    many = j.many;
    some = j.some;
    rising = j.rising;
    within = j.within;
    room = λ h. let room = j.room h in let size = ap (λ (l : Bytes). length l) (same h) in omega (arith, room, size);
    pages = λ h n less. ap (λ (l : Bytes). laid (drop written set) (place l) n) (same h) ∙ j.pages h n less;
    opened = λ d h c l. j.opened d h c (fewer d c l);
  }

  pub stands_read : Stands honest durable gate set written count old left v → Stands honest durable gate set written count new left_new v
  stands_read s = record {
    many = s.many;
    pages = λ n less. ap (λ (l : Bytes). laid (drop written set) (place l) n) (same h) ∙ s.pages n less;
    none = s.none;
    same_set = s.same_set;
    rest = λ shut. rest_read honest durable count old new left left_new v (s.rest shut) same fewer;
    journaled = λ o less. journaled_read (s.journaled o less);
    shutting = λ o all. shutting_read honest durable count old new left left_new v (s.shutting o all) same fewer;
  }

-- behind a call that leaves a file at rest, whether it was refused or not
pub rest_after : {E : Type 0} (honest durable : Bool) (gate : Gate) (set : List (ℕ × List ℕ)) (written count : ℕ) (old new : Bytes) (left left_new : Bytes → Type 0) (v : Version)
    (result : Result (Unit {0}) E) → gate ≡ Shut → IsTrue honest → Stands honest durable gate set written count old left v
    → OnOk result ((v : Version) → IsAtRest honest durable count old left v → IsAtRest honest durable count new left_new v)
    → OnErr result ((v : Version) → IsAtRest honest durable count old left v → IsAtRest honest durable count new left_new v)
    → Stands honest durable gate set written count new left_new v
rest_after honest durable gate set written count old new left left_new v (Ok done) shut h s rest other =
    rest_stands honest durable gate set written count new left_new v shut (s.none shut) h (rest v (s.rest shut))
rest_after honest durable gate set written count old new left left_new v (Err e) shut h s rest other =
    rest_stands honest durable gate set written count new left_new v shut (s.none shut) h (other v (s.rest shut))
