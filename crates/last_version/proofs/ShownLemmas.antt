-- The pages of the last commit, as a reader finds them.
use Rattle.std.proofs.Common.{◌≡◌, ◌≢◌, ◌∙◌, ℕ, zero, suc, ◌+◌, ◌*◌, ◌<◌, ◌≤◌, ◌==◌, ◌||◌, Bool, true, false, List, [], ◌∷◌, Option, Some, None, Contains, length, drop, refl, sym, ap, inl, inr, arith, if◌then◌else◌}
use Rattle.std.specs.Prelude.{◌⊎◌, nat_lt, nat_le, min, ◌-◌, ◌^◌, Result, Ok, Err, OnOk}
use Rattle.std.specs.List.{list_any}
use Rattle.std.proofs.lemmas.Bool.{eqb-true, eq-eqb}
use Rattle.std.proofs.lemmas.Bool.{leb-false, cases_lt}
use Rattle.std.proofs.lemmas.List.{drop-drop}
use borrow.Author.Tests.{ltb-true, ltb-false}
use Rattle.disk.specs.Crashes.{Bytes}
use Rattle.disk.specs.Refused.{CountHasRisen, CountsRefusal}
use Rattle.journal.specs.Lists.{number_in}
use Rattle.journal.specs.Parts.{place}
use Rattle.journal.specs.Versions.{HasPage, laid}
use Rattle.journaled_file.specs.Shown.{padded}
use Rattle.journaled_file.proofs.Laying.{laid_beside}
use Rattle.page_cache.specs.Frames.{AreClean}
use Rattle.last_version.specs.declared.gate.Gate.{Gate}
use Rattle.last_version.specs.declared.gate.Gate.TheVariants.{Shut, Open, Broken}
use Rattle.last_version.specs.Gates.{is_broken, is_shut, answered_in}
use Rattle.last_version.specs.Standing.{pages_below, padded_of, waits_in}

pub below : (n count : ℕ) → n < count → nat_lt n count ≡ true
below n count h = by (nat_lt n count) refl
  where
    by : (t : Bool) → nat_lt n count ≡ t → nat_lt n count ≡ true
    by true e = e
    by false e = let not_less : count ≤ n = ltb-false n count e in absurd (omega (arith, h, not_less))

pub behind : (n count : ℕ) → count ≤ n → nat_lt n count ≡ false
behind n count h = by (nat_lt n count) refl
  where
    by : (t : Bool) → nat_lt n count ≡ t → nat_lt n count ≡ false
    by true e = let less : n < count = ltb-true n count e in absurd (omega (arith, h, less))
    by false e = e

-- a page that is there
pub shown_there : (count : ℕ) (p : ℕ → List ℕ) (n : ℕ) → n < count → pages_below count p n ≡ Some (padded n (p n))
shown_there count p n less = ap (λ (b : Bool). if b then Some (padded n (p n)) else None) (below n count less)

pub shown_gone : (count : ℕ) (p : ℕ → List ℕ) (n : ℕ) → count ≤ n → pages_below count p n ≡ None
shown_gone count p n more = ap (λ (b : Bool). if b then Some (padded n (p n)) else None) (behind n count more)

pub is_below : (count : ℕ) (p : ℕ → List ℕ) (n : ℕ) (page : List ℕ) → pages_below count p n ≡ Some page → n < count
is_below count p n page e = by (nat_lt n count) refl
  where
    by : (t : Bool) → nat_lt n count ≡ t → n < count
    by true b = ltb-true n count b
    by false b = let bad : None ≡ Some page = sym (ap (λ (c : Bool). if c then Some (padded n (p n)) else None) b) ∙ e in cc

-- pages that are the same below the count
pub shown_as : (count : ℕ) (p q : ℕ → List ℕ) → ((n : ℕ) → n < count → p n ≡ q n) → (n : ℕ) → pages_below count p n ≡ pages_below count q n
shown_as count p q same n = by (nat_lt n count) refl
  where
    by : (t : Bool) → nat_lt n count ≡ t → pages_below count p n ≡ pages_below count q n
    by true b = shown_there count p n (ltb-true n count b) ∙ ap (λ (page : List ℕ). Some (padded n page)) (same n (ltb-true n count b)) ∙ sym (shown_there count q n (ltb-true n count b))
    by false b = shown_gone count p n (ltb-false n count b) ∙ sym (shown_gone count q n (ltb-false n count b))

pub clean_as : (p q : ℕ → Option (List ℕ)) (frames : List (ℕ × List ℕ)) → ((n : ℕ) → q n ≡ p n) → AreClean p frames → AreClean q frames
clean_as p q frames same clean n page has = same n ∙ clean n page has

-- frames behind a commit, those of its pages taken out
pub clean_committed : (images : List (ℕ × List ℕ)) (count new_count : ℕ) (p q : ℕ → List ℕ) (old new : List (ℕ × List ℕ)) → count ≤ new_count
    → ((n : ℕ) → n < new_count → q n ≡ laid images p n)
    → ((n : ℕ) (page : List ℕ) → Contains new (n, page) → (HasPage n images → ⊥) × Contains old (n, page))
    → AreClean (pages_below count p) old → AreClean (pages_below new_count q) new
clean_committed images count new_count p q old new grows is gone clean n page has =
    let left = gone n page has in
    let was = clean n page left.1 in
    let low = is_below count p n page was in
    let same : q n ≡ p n = is n (omega (arith, low, grows)) ∙ laid_beside images p n left.0 in
    shown_there new_count q n (omega (arith, low, grows)) ∙ ap (λ (part : List ℕ). Some (padded n part)) same
    ∙ sym (shown_there count p n low) ∙ was

pub clean_gone : (images : List (ℕ × List ℕ)) (shows : ℕ → Option (List ℕ)) (old new : List (ℕ × List ℕ))
    → ((n : ℕ) (page : List ℕ) → Contains new (n, page) → (HasPage n images → ⊥) × Contains old (n, page))
    → AreClean shows old → AreClean shows new
clean_gone images shows old new gone clean n page has = clean n page (gone n page has).1

-- one page more that is gone
pub next_gone : (images : List (ℕ × List ℕ)) (i n : ℕ) → ((k : ℕ) → k < i → number_in images k ≢ n) → n ≢ number_in images i
    → (k : ℕ) → k < i + 1 → number_in images k ≢ n
next_gone images i n before here k less = by (cases_lt k i)
  where
    by : (k < i) ⊎ (i ≤ k) → number_in images k ≢ n
    by (inl low) = before k low
    by (inr high) = let same : k ≡ i = omega (arith, less, high) in λ is. here (sym is ∙ ap (number_in images) same)

-- ---- pages that are to be written

fewer_one : (c d : Bool) → (c ≡ true → d ≡ true) → (if c then 1 else 0) ≤ (if d then 1 else 0)
fewer_one true d f = let e : (if d then 1 else 0) ≡ 1 = ap {B = ℕ} (λ b. if b then 1 else 0) (f refl) in omega (arith, e)
fewer_one false true f = omega arith
fewer_one false false f = omega arith

or_more : (b c d : Bool) → (c ≡ true → d ≡ true) → c ≡ true → (b || d) ≡ true
or_more true c d f h = refl
or_more false c d f h = f h

any_drop : (k n : ℕ) (xs : List (ℕ × List ℕ)) → list_any (λ e. e.0 == n) (drop k xs) ≡ true → list_any (λ e. e.0 == n) xs ≡ true
any_drop zero n xs h = h
any_drop (suc k) n [] h = h
any_drop (suc k) n (x ∷ xs) h = or_more (x.0 == n) (list_any (λ e. e.0 == n) (drop k xs)) (list_any (λ e. e.0 == n) xs) (any_drop k n xs) h

-- fewer pages wait where more are written
pub fewer_wait : (set : List (ℕ × List ℕ)) (j k n : ℕ) → j ≤ k → waits_in (drop k set) n ≤ waits_in (drop j set) n
fewer_wait set j k n order =
    let rest : j + (k - j) ≡ k = omega (arith, order) in
    fewer_one (list_any (λ e. e.0 == n) (drop k set)) (list_any (λ e. e.0 == n) (drop j set))
    (λ h. any_drop (k - j) n (drop j set) (ap (λ (xs : List (ℕ × List ℕ)). list_any (λ e. e.0 == n) xs) (drop-drop (k - j) j set ∙ ap (λ (i : ℕ). drop i set) rest) ∙ h))

pub none_wait : (left old : List (ℕ × List ℕ)) (n : ℕ) → left ≡ [] → waits_in left n ≤ waits_in old n
none_wait left old n is = let none : waits_in left n ≡ 0 = ap (λ (xs : List (ℕ × List ℕ)). waits_in xs n) is in omega (arith, none)

any_has : (n : ℕ) (xs : List (ℕ × List ℕ)) → HasPage n xs → list_any (λ e. e.0 == n) xs ≡ true
any_has n [] h = absurd h
any_has n (x ∷ xs) (inl is) = ap (λ (b : Bool). b || list_any (λ e. e.0 == n) xs) (eq-eqb x.0 n (sym is))
any_has n (x ∷ xs) (inr more) = or_more (x.0 == n) true (list_any (λ e. e.0 == n) xs) (λ t. any_has n xs more) refl

has_any : (n : ℕ) (xs : List (ℕ × List ℕ)) → list_any (λ e. e.0 == n) xs ≡ true → HasPage n xs
has_any n [] h = let bad : false ≡ true = h in cc
has_any n (x ∷ xs) h = one (x.0 == n) refl h (has_any n xs)
  where
    one : (b : Bool) → (x.0 == n) ≡ b → (b || list_any (λ e. e.0 == n) xs) ≡ true → (list_any (λ e. e.0 == n) xs ≡ true → HasPage n xs) → HasPage n (x ∷ xs)
    one true e h again = inl (sym (eqb-true x.0 n e))
    one false e h again = inr (again h)

-- a page that does not wait is none of those that are left
pub not_left : (left : List (ℕ × List ℕ)) (n : ℕ) → waits_in left n ≡ 0 → HasPage n left → ⊥
not_left left n none has =
    let one : waits_in left n ≡ 1 = ap {B = ℕ} (λ b. if b then 1 else 0) (any_has n left has) in absurd (omega (arith, one, none))

-- and stands in its place
pub padded_there : (file : Bytes) (n : ℕ) → 4096 * n + 4096 ≤ length file → padded_of file n ≡ Some (padded n (place file n))
padded_there file n there = by (nat_le (4096 * n + 4096) (length file)) refl
  where
    by : (b : Bool) → nat_le (4096 * n + 4096) (length file) ≡ b → padded_of file n ≡ Some (padded n (place file n))
    by true e = ap (λ (c : Bool). if c then Some (padded n (place file n)) else None) e
    by false e = let short : length file < 4096 * n + 4096 = leb-false (4096 * n + 4096) (length file) e in absurd (omega (arith, there, short))

pub stored_page : (left : List (ℕ × List ℕ)) (count : ℕ) (file : Bytes) (n : ℕ) (page : List ℕ) → 4096 * count ≤ length file
    → waits_in left n ≡ 0 → pages_below count (laid left (place file)) n ≡ Some page → padded_of file n ≡ Some page
stored_page left count file n page room none is =
    let less = is_below count (laid left (place file)) n page is in
    padded_there file n (omega (arith, less, room))
    ∙ ap (λ (part : List ℕ). Some (padded n part)) (sym (laid_beside left (place file) n (not_left left n none)))
    ∙ sym (shown_there count (laid left (place file)) n less) ∙ is

pub waits_has : (left : List (ℕ × List ℕ)) (n : ℕ) → HasPage n left → waits_in left n ≡ 1
waits_has left n has = ap {B = ℕ} (λ b. if b then 1 else 0) (any_has n left has)

pub waits_none : (left : List (ℕ × List ℕ)) (n : ℕ) → (HasPage n left → ⊥) → waits_in left n ≡ 0
waits_none left n none = by (list_any (λ e. e.0 == n) left) refl
  where
    by : (b : Bool) → list_any (λ e. e.0 == n) left ≡ b → waits_in left n ≡ 0
    by true e = absurd (none (has_any n left e))
    by false e = ap {B = ℕ} (λ c. if c then 1 else 0) e

-- ---- counts of refused calls

answer_more : (top d e a b : ℕ) → e ≡ d → b ≡ min (a + 1) top → min (d + a + 1) top ≤ e + b
answer_more top d e a b same one = omega (arith, same, one)

-- an answer that was given and counted without a call of the device
pub risen_answer : (d e a b : ℕ) → e ≡ d → b ≡ min (a + 1) (2 ^ 64 - 1) → a ≤ b → CountHasRisen (d + a) (e + b)
risen_answer d e a b same one few = record { no_less = omega (arith, same, few); more = answer_more _ d e a b same one }

more_on : (top a b k l : ℕ) → l ≡ k → min (a + 1) top ≤ b → min (a + k + 1) top ≤ b + l
more_on top a b k l same more = omega (arith, same, more)

-- a refused call of the device, where no answer was given without it
pub risen_on : (a b k l : ℕ) → l ≡ k → CountHasRisen a b → CountHasRisen (a + k) (b + l)
risen_on a b k l same h = record { no_less = let less = h.no_less in omega (arith, same, less); more = more_on _ a b k l same h.more }

pub counts_on : {T E : Type 0} (result : Result T E) (a b k l : ℕ) → l ≡ k → CountsRefusal result a b → CountsRefusal result (a + k) (b + l)
counts_on (Ok x) a b k l same count = omega (arith, same, count)
counts_on (Err e) a b k l same count = risen_on a b k l same count

-- no answer is given without the device where no commit was refused
pub whole_answers : (gate : Gate) → is_broken gate ≡ false → answered_in gate ≡ 0
whole_answers Shut e = refl
whole_answers Open e = refl
whole_answers (Broken cause answered) e = let bad : true ≡ false = e in cc

-- what was carried out where no answer was given without the device
pub settled_count : {T E : Type 0} (result : Result T E) (a b k : ℕ) → k ≡ 0 → CountsRefusal result a b → OnOk result (b ≡ a + k)
settled_count (Ok x) a b k none same = omega (arith, none, same)
settled_count (Err e) a b k none count = tt

pub rest_whole : (gate : Gate) → is_shut gate ≡ true → is_broken gate ≡ false
rest_whole Shut e = refl
rest_whole Open e = let bad : false ≡ true = e in cc
rest_whole (Broken cause answered) e = let bad : false ≡ true = e in cc
