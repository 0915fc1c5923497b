-- Which commits read old images.
use Rattle.std.proofs.Common.{◌≡◌, ◌⊎◌, inl, inr, ℕ, zero, suc, ◌<◌, ◌≤◌, ◌+◌, ◌==◌, ◌||◌, Bool, true, false, not, List, [], ◌∷◌, ◌++◌, refl, sym, ap, subst, ◌∙◌, arith, length, get_or, take, drop}
use Rattle.std.specs.Prelude.{nat_lt, ◌&&◌}
use Rattle.std.specs.List.{list_any, remove}
use Rattle.std.proofs.lemmas.List.{at_drop_more, at_drop_all, get_or_append_left, take-append-le, get_or_push, take_at, length_push}
use Rattle.std.proofs.lemmas.List.Edits.{get_or-remove_below, get_or-remove_above, length-remove}
use Rattle.std.proofs.lemmas.Bool.{cases_lt}
use borrow.Author.Tests.{ltb-false}
use Rattle.pool.specs.declared.pins.Pin.{Pin}
use Rattle.pool.specs.declared.slot.OldImage.{OldImage}
use Rattle.pool.specs.declared.slot.Slot.{Slot}
use Rattle.pool.specs.Pins.{pins_at}
use Rattle.pool.specs.Images.{covers, reads_newest, reads, no_image, AreNeeded, AreKept, pinned_in}
use Rattle.pool.specs.Ready.{Grows}
use Rattle.pool.specs.Slots.{slot_at}
use Rattle.pool.proofs.SlotLemmas.{lt-true, lt-false}

-- ---- tests of lists

pub or_false : (b : Bool) → (b || false) ≡ b
or_false true = refl
or_false false = refl

or_assoc : (a b c : Bool) → (a || (b || c)) ≡ ((a || b) || c)
or_assoc true b c = refl
or_assoc false b c = refl

pub or_first : (a b : Bool) → (a || b) ≡ false → a ≡ false
or_first true b h = h
or_first false b h = refl

pub or_second : (a b : Bool) → (a || b) ≡ false → b ≡ false
or_second true b h = let bad : true ≡ false = h in cc
or_second false b h = h

or_none : (a b : Bool) → a ≡ false → b ≡ false → (a || b) ≡ false
or_none true b h g = h
or_none false b h g = g

pub any_push : {X : Type 0} (f : X → Bool) (xs : List X) (x : X) → list_any f (xs ++ x ∷ []) ≡ (list_any f xs || f x)
any_push f [] x = or_false (f x)
any_push f (y ∷ xs) x = ap (λ r. f y || r) (any_push f xs x) ∙ or_assoc (f y) (list_any f xs) (f x)

-- without an element that fails, or whatever the others say
pub any_removed : {X : Type 0} (f : X → Bool) (xs : List X) (i : ℕ) (d : X) → i < length xs → f (get_or xs i d) ≡ false → list_any f (remove xs i) ≡ list_any f xs
any_removed f [] i d less h = absurd (omega arith)
any_removed f (x ∷ xs) zero d less h = sym (ap (λ b. b || list_any f xs) h)
any_removed f (x ∷ xs) (suc i) d less h = ap (λ r. f x || r) (any_removed f xs i d (omega arith) h)

pub none_removed : {X : Type 0} (f : X → Bool) (xs : List X) (i : ℕ) → list_any f xs ≡ false → list_any f (remove xs i) ≡ false
none_removed f [] zero h = refl
none_removed f [] (suc i) h = refl
none_removed f (x ∷ xs) zero h = or_second (f x) (list_any f xs) h
none_removed f (x ∷ xs) (suc i) h = or_none (f x) (list_any f (remove xs i)) (or_first (f x) (list_any f xs) h) (none_removed f xs i (or_second (f x) (list_any f xs) h))

pub none_at : {X : Type 0} (f : X → Bool) (xs : List X) (k : ℕ) (d : X) → list_any f xs ≡ false → k < length xs → f (get_or xs k d) ≡ false
none_at f [] k d h less = absurd (omega arith)
none_at f (x ∷ xs) zero d h less = or_first (f x) (list_any f xs) h
none_at f (x ∷ xs) (suc k) d h less = none_at f xs k d (or_second (f x) (list_any f xs) h) (omega arith)

-- a walk over the pinned commits, in the middle and at its ends
abbrev pub no_pin : Pin
no_pin = record { number = 0; more = 0 }

pub walk_on : (f : ℕ → Bool) (pins : List Pin) (i : ℕ) (r : Bool) → i < length pins → f (get_or pins i no_pin).number ≡ false
    → list_any f (pinned_in (drop i pins)) ≡ r → list_any f (pinned_in (drop (i + 1) pins)) ≡ r
walk_on f pins i r less fails e = sym (at_drop_more (λ (ps : List Pin). list_any f (pinned_in ps)) pins i no_pin less ∙ ap (λ b. b || list_any f (pinned_in (drop (i + 1) pins))) fails) ∙ e

pub walk_stop : (f : ℕ → Bool) (pins : List Pin) (i : ℕ) (r : Bool) → i < length pins → f (get_or pins i no_pin).number ≡ true → list_any f (pinned_in (drop i pins)) ≡ r → true ≡ r
walk_stop f pins i r less passes e = sym (at_drop_more (λ (ps : List Pin). list_any f (pinned_in ps)) pins i no_pin less ∙ ap (λ b. b || list_any f (pinned_in (drop (i + 1) pins))) passes) ∙ e

pub walk_end : (f : ℕ → Bool) (pins : List Pin) (i : ℕ) (r : Bool) → length pins ≤ i → list_any f (pinned_in (drop i pins)) ≡ r → false ≡ r
walk_end f pins i r le e = sym (at_drop_all (λ (ps : List Pin). list_any f (pinned_in ps)) pins i le) ∙ e

pub any_same : {X : Type 0} (f g : X → Bool) → ((x : X) → f x ≡ g x) → (xs : List X) → list_any f xs ≡ list_any g xs
any_same f g same xs = λ i. list_any (λ x. same x i) xs

-- ---- which commits an image is of

pub covers_push : (c : ℕ) (os : List OldImage) (o : OldImage) → covers c (os ++ o ∷ []) ≡ (covers c os || nat_lt c o.until)
covers_push c os o = any_push (λ p. nat_lt c p.until) os o

pub covers_later : (c e : ℕ) (os : List OldImage) → c ≤ e → covers c os ≡ false → covers e os ≡ false
covers_later c e [] less h = refl
covers_later c e (o ∷ os) less h =
    or_none (nat_lt e o.until) (covers e os)
    (let most : o.until ≤ c = ltb-false c o.until (or_first (nat_lt c o.until) (covers c os) h) in lt-false e o.until (omega arith))
    (covers_later c e os less (or_second (nat_lt c o.until) (covers c os) h))

-- the commits up to the last all have an image until the next one
pub all_covered : (last : ℕ) (pinned : List ℕ) (os : List OldImage) (o : OldImage) → o.until ≡ last + 1 → list_any (λ c. nat_lt last c) pinned ≡ false
    → reads_newest pinned (os ++ o ∷ []) ≡ false
all_covered last [] os o until before = refl
all_covered last (c ∷ cs) os o until before =
    or_none (not (covers c (os ++ o ∷ []))) (reads_newest cs (os ++ o ∷ []))
    (ap not (covers_push c os o ∙ ap (λ b. covers c os || b) (let most : c ≤ last = ltb-false last c (or_first (nat_lt last c) (list_any (λ d. nat_lt last d) cs) before) in lt-true c o.until (omega (arith, most, until))) ∙ or_true (covers c os)))
    (all_covered last cs os o until (or_second (nat_lt last c) (list_any (λ d. nat_lt last d) cs) before))
  where
    or_true : (b : Bool) → (b || true) ≡ true
    or_true true = refl
    or_true false = refl

turned : (b : Bool) → not b ≡ false → b ≡ true
turned true e = refl
turned false e = sym e

-- a pinned commit is among the numbers
pub pinned_is_covered : (os : List OldImage) (pins : List Pin) (c : ℕ) → ((p : Pin) (ps : List Pin) → 0 < pins_at (p ∷ ps) c → (p.number ≡ c) ⊎ (0 < pins_at ps c))
    → reads_newest (pinned_in pins) os ≡ false → 0 < pins_at pins c → covers c os ≡ true
pinned_is_covered os [] c split none some = let zero_pins : pins_at [] c ≡ 0 = refl in absurd (omega (arith, zero_pins, some))
pinned_is_covered os (p ∷ ps) c split none some = elim (split p ps some) [
  | inl is ↦ subst (λ n. covers n os ≡ true) is (turned (covers p.number os) (or_first (not (covers p.number os)) (reads_newest (pinned_in ps) os) none))
  | inr more ↦ pinned_is_covered os ps c split (or_second (not (covers p.number os)) (reads_newest (pinned_in ps) os) none) more
]

-- ---- which images are needed

-- the images before a place say which commits read the one there
pub reads_before : (os ns : List OldImage) (i c : ℕ) → get_or ns i no_image ≡ get_or os i no_image → take i ns ≡ take i os → reads ns i c ≡ reads os i c
reads_before os ns i c at front = λ k. nat_lt c (at k).until && not (covers c (front k))

-- an image that is put last is read by whoever read the newest version
last_read : (last : ℕ) (os : List OldImage) (o : OldImage) (c : ℕ) → o.until ≡ last + 1 → c ≤ last → reads (os ++ o ∷ []) (length os) c ≡ not (covers c os)
last_read last os o c until most = (λ k. nat_lt c (get_or_push os o no_image (length os) refl k).until && not (covers c (take_at os (o ∷ []) (length os) refl k)))
    ∙ ap (λ t. t && not (covers c os)) (lt-true c o.until (omega (arith, most, until)))

is_read_last : (last : ℕ) (os : List OldImage) (o : OldImage) (cs : List ℕ) → o.until ≡ last + 1 → list_any (λ c. nat_lt last c) cs ≡ false → reads_newest cs os ≡ true
    → list_any (reads (os ++ o ∷ []) (length os)) cs ≡ true
is_read_last last os o [] until before wanted = wanted
is_read_last last os o (c ∷ cs) until before wanted =
    same_or (not (covers c os)) (reads_newest cs os) (reads (os ++ o ∷ []) (length os) c) (list_any (reads (os ++ o ∷ []) (length os)) cs)
    (last_read last os o c until (ltb-false last c (or_first (nat_lt last c) (list_any (λ d. nat_lt last d) cs) before)))
    (is_read_last last os o cs until (or_second (nat_lt last c) (list_any (λ d. nat_lt last d) cs) before)) wanted
  where
    same_or : (a r b s : Bool) → b ≡ a → (r ≡ true → s ≡ true) → (a || r) ≡ true → (b || s) ≡ true
    same_or true r b s e f h = ap (λ t. t || s) e
    same_or false r b s e f h = ap (λ t. t || s) e ∙ f h

pub needed_push : (last : ℕ) (pinned : List ℕ) (os : List OldImage) (o : OldImage) → o.until ≡ last + 1 → list_any (λ c. nat_lt last c) pinned ≡ false
    → reads_newest pinned os ≡ true → AreNeeded pinned os → AreNeeded pinned (os ++ o ∷ [])
needed_push last pinned os o until before wanted needed i less = elim (cases_lt i (length os)) [
  | inl below ↦ any_same (reads (os ++ o ∷ []) i) (reads os i) (λ c. reads_before os (os ++ o ∷ []) i c (get_or_append_left os (o ∷ []) no_image i below) (take-append-le i os (o ∷ []) (omega (arith, below)))) pinned ∙ needed i below
  | inr above ↦ let long = length_push os o in let is : length os ≡ i = omega (arith, above, less, long) in
      subst (λ j. list_any (reads (os ++ o ∷ []) j) pinned ≡ true) is (is_read_last last os o pinned until before wanted)
]

-- a commit that none of the images is of reads none
reads_none : (c : ℕ) (os : List OldImage) (i : ℕ) → covers c os ≡ false → i < length os → reads os i c ≡ false
reads_none c os i none less = ap (λ t. t && not (covers c (take i os))) (none_at (λ o. nat_lt c o.until) os i no_image none less)

pub needed_without : (pinned : List ℕ) (place : ℕ) (os : List OldImage) → place < length pinned → covers (get_or pinned place 0) os ≡ false → AreNeeded pinned os → AreNeeded (remove pinned place) os
needed_without pinned place os within none needed i less = any_removed (reads os i) pinned place 0 within (reads_none (get_or pinned place 0) os i none less) ∙ needed i less

-- one pin more
needed_more : (pinned : List ℕ) (n : ℕ) (os : List OldImage) → AreNeeded pinned os → AreNeeded (pinned ++ n ∷ []) os
needed_more pinned n os needed i less = any_push (reads os i) pinned n ∙ ap (λ b. b || reads os i n) (needed i less)

-- ---- what holds of all images

pub kept_same : (last : ℕ) (pinned : List ℕ) (touched new_touched : List (List ℕ)) (slots new_slots : List Slot) → ((n : ℕ) → (slot_at new_slots n).images ≡ (slot_at slots n).images)
    → Grows touched new_touched → length touched ≤ length new_touched → AreKept last pinned touched slots → AreKept last pinned new_touched new_slots
kept_same last pinned touched new_touched slots new_slots same grows longer kept = record {
  before = kept.before;
  room = let was = kept.room in omega (arith, was, longer);
  old = λ n. ap (covers last) (same n) ∙ kept.old n;
  needed = λ n. subst (AreNeeded pinned) (sym (same n)) (kept.needed n);
  noted = λ n k less is. grows k n (kept.noted n k less (ap (covers (get_or pinned k 0)) (sym (same n)) ∙ is));
}

-- the last commit is pinned once more
pub kept_pinned : (last : ℕ) (pinned new : List ℕ) (touched : List (List ℕ)) (slots : List Slot) → length pinned < length touched
    → (new ≡ pinned) ⊎ (new ≡ pinned ++ last ∷ []) → AreKept last pinned touched slots → AreKept last new touched slots
kept_pinned last pinned new touched slots more (inl same) kept = subst (λ (l : List ℕ). AreKept last l touched slots) (sym same) kept
kept_pinned last pinned new touched slots more (inr one) kept = subst (λ (l : List ℕ). AreKept last l touched slots) (sym one) (record {
  before = any_push (λ c. nat_lt last c) pinned last ∙ or_none (list_any (λ c. nat_lt last c) pinned) (nat_lt last last) kept.before (lt-false last last (omega arith));
  room = let long = length_push pinned last in omega (arith, long, more);
  old = kept.old;
  needed = λ n. needed_more pinned last (slot_at slots n).images (kept.needed n);
  noted = λ n k less is. by n k is (cases_lt k (length pinned)) (let long = length_push pinned last in omega (arith, long, less));
})
  where
    by : (n k : ℕ) → covers (get_or (pinned ++ last ∷ []) k 0) (slot_at slots n).images ≡ true → (k < length pinned) ⊎ (length pinned ≤ k) → k ≤ length pinned
        → list_any (λ m. m == n) (get_or touched k []) ≡ true
    by n k is (inl below) most = kept.noted n k below (ap (λ c. covers c (slot_at slots n).images) (sym (get_or_append_left pinned (last ∷ []) 0 k below)) ∙ is)
    by n k is (inr above) most =
        let at = get_or_push pinned last 0 k (omega (arith, above, most)) in
        let bad : false ≡ true = sym (kept.old n) ∙ ap (λ c. covers c (slot_at slots n).images) (sym at) ∙ is in cc

-- one pin is gone, and the images that its commit read alone
pub kept_unpinned : (last : ℕ) (pinned new : List ℕ) (touched new_touched : List (List ℕ)) (pages : List ℕ) (slots new_slots : List Slot) (place : ℕ) → place < length pinned
    → new ≡ remove pinned place → new_touched ≡ remove touched place → get_or touched place [] ≡ pages
    → ((n c : ℕ) → covers c (slot_at new_slots n).images ≡ true → covers c (slot_at slots n).images ≡ true)
    → ((n : ℕ) → list_any (λ m. m == n) pages ≡ true → AreNeeded new (slot_at new_slots n).images)
    → ((n : ℕ) → list_any (λ m. m == n) pages ≡ false → (slot_at new_slots n).images ≡ (slot_at slots n).images)
    → AreKept last pinned touched slots → AreKept last new new_touched new_slots
kept_unpinned last pinned new touched new_touched pages slots new_slots place within fewer lists listed covered needed others kept = record {
  before = ap (list_any (λ c. nat_lt last c)) fewer ∙ none_removed (λ c. nat_lt last c) pinned place kept.before;
  room = let shorter = length-remove pinned place within in let was = kept.room in let shorter_too = length-remove touched place (omega (arith, within, was)) in
      let a = ap length fewer in let b = ap (λ (l : List (List ℕ)). length l) lists in omega (arith, shorter, was, shorter_too, a, b);
  old = λ n. turn (covers last (slot_at new_slots n).images) (covers last (slot_at slots n).images) (covered n last) (kept.old n);
  needed = λ n. by n (list_any (λ m. m == n) pages) refl;
  noted = λ n k less is. at n k (let shorter = length-remove pinned place within in let a = ap length fewer in omega (arith, shorter, a, less)) is (cases_lt k place);
}
  where
    turn : (a b : Bool) → (a ≡ true → b ≡ true) → b ≡ false → a ≡ false
    turn true b f e = let bad : true ≡ false = sym (f refl) ∙ e in cc
    turn false b f e = refl

    by : (n : ℕ) (b : Bool) → list_any (λ m. m == n) pages ≡ b → AreNeeded new (slot_at new_slots n).images
    by n true e = needed n e
    by n false e = subst (AreNeeded new) (sym (others n e)) (subst (λ (l : List ℕ). AreNeeded l (slot_at slots n).images) (sym fewer)
        (needed_without pinned place (slot_at slots n).images within (unread n e) (kept.needed n)))
      where
        no : (a : Bool) → (a ≡ true → list_any (λ m. m == n) (get_or touched place []) ≡ true) → list_any (λ m. m == n) (get_or touched place []) ≡ false → a ≡ false
        no true f g = let bad : true ≡ false = sym (f refl) ∙ g in cc
        no false f g = refl

        unread : (m : ℕ) → list_any (λ i. i == n) pages ≡ false → covers (get_or pinned place 0) (slot_at slots n).images ≡ false
        unread m g = no (covers (get_or pinned place 0) (slot_at slots n).images) (kept.noted n place within) (ap (list_any (λ i. i == n)) listed ∙ g)

    at : (n k : ℕ) → k + 1 < length pinned → covers (get_or new k 0) (slot_at new_slots n).images ≡ true → (k < place) ⊎ (place ≤ k) → list_any (λ m. m == n) (get_or new_touched k []) ≡ true
    at n k less is (inl below) =
        ap (λ (l : List (List ℕ)). list_any (λ m. m == n) (get_or l k [])) lists
        ∙ ap (list_any (λ m. m == n)) (get_or-remove_below touched place [] k below (let was = kept.room in omega (arith, within, was)))
        ∙ kept.noted n k (omega (arith, below, within))
        (covered n (get_or pinned k 0) (ap (λ c. covers c (slot_at new_slots n).images) (sym (ap (λ (l : List ℕ). get_or l k 0) fewer ∙ get_or-remove_below pinned place 0 k below within)) ∙ is))
    at n k less is (inr above) =
        ap (λ (l : List (List ℕ)). list_any (λ m. m == n) (get_or l k [])) lists
        ∙ ap (list_any (λ m. m == n)) (get_or-remove_above touched place [] k above (let was = kept.room in omega (arith, within, was)))
        ∙ kept.noted n (k + 1) less
        (covered n (get_or pinned (k + 1) 0) (ap (λ c. covers c (slot_at new_slots n).images) (sym (ap (λ (l : List ℕ). get_or l k 0) fewer ∙ get_or-remove_above pinned place 0 k above within)) ∙ is))
