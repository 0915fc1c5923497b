-- Lists of readers: what is found in them, what is left after a change, and how many found a
-- commit.
use Rattle.std.proofs.Common.{◌≡◌, ◌≢◌, ◌∙◌, refl, sym, ap, subst, ℕ, zero, suc, ◌+◌, ◌-◌, ◌<◌, ◌==◌, Bool, true, false, not, ◌&&◌, cond, List, [], ◌∷◌, ◌++◌, map, take, drop, length, is_some, Option, Some, None, Result, Ok, Err, OnOk, OnErr, inl, inr, ◌⊎◌, get_or, arith}
use Rattle.std.specs.Prelude.{⊤, slice_get, MatchOption, if◌then◌else◌}
use Rattle.std.specs.List.{find, remove}
use Rattle.std.specs.Option.{option_map}
use Rattle.std.specs.Ordering.{nat_cmp}
use Rattle.std.specs.Cmp.{unsigned_tied}
use Rattle.std.specs.FinMap as map
use Rattle.std.specs.FinMap.{FinMap, get, insert, from_entries, get-from_entries, get-remove, from_entries_push, same_map, nat_cmp-IsAntisymmetric}
use Rattle.std.proofs.lemmas.Cmp.{nat_cmp_total}
use Rattle.std.proofs.lemmas.Bool.{eqb-true, eqb-false, eq-eqb}
use Rattle.std.proofs.lemmas.Bool.Decides.{nat_tests}
use Rattle.std.proofs.lemmas.List.{map-append}
use Rattle.std.proofs.lemmas.List.Sums.{sum_by_push, sum_by-remove, sum_by-cons, get_or-le-sum_by}
use Rattle.std.proofs.lemmas.Option.{slice_get_within, get_or_from_slice_get}
use Rattle.snapshot_pins.specs.declared.reader.Reader.{Reader}
use Rattle.snapshot_pins.specs.Listed.{reader_of, are_apart, numbers_in, count_at}
use Rattle.snapshot_pins.specs.Pinned.{with_reader, KeepsFound}
use Rattle.pool.specs.Versions.{Versions, IsKept}

option_map-cond : {X Y : Type 0} (f : X → Y) (b : Bool) (x y : Option X) → option_map f (cond b x y) ≡ cond b (option_map f x) (option_map f y)
option_map-cond f true x y = refl
option_map-cond f false x y = refl

-- ---- none stands twice

abbrev AreApart : List Reader → Type 0
AreApart [] = ⊤
AreApart (r ∷ readers) = (reader_of r.reader readers ≡ None) × AreApart readers

both_true : (a b : Bool) → (a && b) ≡ true → (a ≡ true) × (b ≡ true)
both_true true b e = (refl, e)
both_true false b e = cc

is_none : (o : Option Reader) → not (is_some o) ≡ true → o ≡ None
is_none None e = refl
is_none (Some r) e = cc

apart : (readers : List Reader) → are_apart readers ≡ true → AreApart readers
apart [] e = tt
apart (r ∷ readers) e =
    let both = both_true (not (is_some (reader_of r.reader readers))) (are_apart readers) e in
    (is_none (reader_of r.reader readers) both.0, apart readers both.1)

and_true : (a b : Bool) → a ≡ true → b ≡ true → (a && b) ≡ true
and_true true b e f = f
and_true false b e f = e

test_apart : (readers : List Reader) → AreApart readers → are_apart readers ≡ true
test_apart [] a = refl
test_apart (r ∷ readers) a = and_true (not (is_some (reader_of r.reader readers))) (are_apart readers) (ap (λ o. not (is_some o)) a.0) (test_apart readers a.1)

-- ---- what is found

find-numbers : (readers : List Reader) (q : ℕ) → map.find nat_cmp q (map (λ (r : Reader). (r.reader, r.number)) readers) ≡ option_map (λ (r : Reader). r.number) (reader_of q readers)
find-numbers [] q = refl
find-numbers (r ∷ readers) q =
    ap (λ b. cond b (Some r.number) (map.find nat_cmp q (map (λ (r : Reader). (r.reader, r.number)) readers))) (unsigned_tied q r.reader)
    ∙ ap (cond (q == r.reader) (Some r.number)) (find-numbers readers q)
    ∙ sym (option_map-cond (λ (r : Reader). r.number) (q == r.reader) (Some r) (reader_of q readers))

pub get-numbers : (readers : List Reader) (q : ℕ) → get (numbers_in readers) q ≡ option_map (λ (r : Reader). r.number) (reader_of q readers)
get-numbers readers q = get-from_entries nat_cmp_total _ q ∙ find-numbers readers q

-- one that stands in the list is found, though not always the first
not_none : (readers : List Reader) (place : ℕ) (r : Reader) → slice_get readers place ≡ Some r → reader_of r.reader readers ≡ None → ⊥
not_none [] place r at none = cc
not_none (x ∷ readers) zero r at none =
    let same : x ≡ r = cc in
    let tied : (r.reader == x.reader) ≡ true = eq-eqb r.reader x.reader (ap (λ (y : Reader). y.reader) (sym same)) in
    let here : cond true (Some x) (reader_of r.reader readers) ≡ None = subst (λ b. cond b (Some x) (reader_of r.reader readers) ≡ None) tied none in
    absurd (cc)
not_none (x ∷ readers) (suc place) r at none = by (r.reader == x.reader) none (not_none readers place r at)
  where
    by : (b : Bool) → cond b (Some x) (reader_of r.reader readers) ≡ None → (reader_of r.reader readers ≡ None → ⊥) → ⊥
    by true e go = absurd (cc)
    by false e go = go e

-- one that stands in the list is the one of its number
found_at : (readers : List Reader) (place : ℕ) (r : Reader) → AreApart readers → slice_get readers place ≡ Some r → reader_of r.reader readers ≡ Some r
found_at [] place r apart at = cc
found_at (x ∷ readers) zero r apart at =
    let same : x ≡ r = cc in
    let tied : (r.reader == x.reader) ≡ true = eq-eqb r.reader x.reader (ap (λ (y : Reader). y.reader) (sym same)) in
    ap (λ b. cond b (Some x) (reader_of r.reader readers)) tied ∙ ap (λ (y : Reader). Some y) same
found_at (x ∷ readers) (suc place) r apart at = by (r.reader == x.reader) refl (found_at readers place r apart.1 at)
  where
    by : (b : Bool) → (r.reader == x.reader) ≡ b → reader_of r.reader readers ≡ Some r → cond b (Some x) (reader_of r.reader readers) ≡ Some r
    by true e go = absurd (not_none readers place r at (ap (λ n. reader_of n readers) (eqb-true r.reader x.reader e) ∙ apart.0))
    by false e go = go

-- what is found after one is taken out
removed_step : (x q n : ℕ) (one : Reader) (left rest : Option Reader) → ((q ≡ n) → ⊥) → left ≡ cond (x == q) None rest
    → cond (x == n) (Some one) left ≡ cond (x == q) None (cond (x == n) (Some one) rest)
removed_step x q n one left rest other e = by (x == q) (x == n) refl refl
  where
    by : (a b : Bool) → (x == q) ≡ a → (x == n) ≡ b → cond b (Some one) left ≡ cond a None (cond b (Some one) rest)
    by true true s t = absurd (other (sym (eqb-true x q s) ∙ eqb-true x n t))
    by true false s t = e ∙ ap (λ c. cond c None rest) s
    by false true s t = refl
    by false false s t = e ∙ ap (λ c. cond c None rest) s

found_without : (readers : List Reader) (place : ℕ) (r : Reader) (x : ℕ) → AreApart readers → slice_get readers place ≡ Some r
    → reader_of x (remove readers place) ≡ cond (x == r.reader) None (reader_of x readers)
found_without [] place r x apart at = cc
found_without (y ∷ readers) zero r x apart at = by (x == r.reader) refl
  where
    same : y ≡ r
    same = cc

    by : (b : Bool) → (x == r.reader) ≡ b → reader_of x readers ≡ cond b None (cond (x == y.reader) (Some y) (reader_of x readers))
    by true e = ap (λ n. reader_of n readers) (eqb-true x r.reader e ∙ ap (λ (z : Reader). z.reader) (sym same)) ∙ apart.0
    by false e = sym (ap (λ b. cond b (Some y) (reader_of x readers)) (ap (λ (z : Reader). x == z.reader) same ∙ e))
found_without (y ∷ readers) (suc place) r x apart at =
    removed_step x r.reader y.reader y (reader_of x (remove readers place)) (reader_of x readers)
    (λ e. not_none readers place r at (ap (λ n. reader_of n readers) e ∙ apart.0))
    (found_without readers place r x apart.1 at)

-- ---- none stands twice

apart_without : (readers : List Reader) (place : ℕ) → AreApart readers → AreApart (remove readers place)
apart_without [] zero apart = tt
apart_without [] (suc place) apart = tt
apart_without (y ∷ readers) zero apart = apart.1
apart_without (y ∷ readers) (suc place) apart = (still_none readers place y.reader apart.0, apart_without readers place apart.1)
  where
    still_none : (rs : List Reader) (k q : ℕ) → reader_of q rs ≡ None → reader_of q (remove rs k) ≡ None
    still_none [] zero q none = refl
    still_none [] (suc k) q none = refl
    still_none (z ∷ rs) zero q none = by (q == z.reader) none
      where
        by : (b : Bool) → cond b (Some z) (reader_of q rs) ≡ None → reader_of q rs ≡ None
        by true e = absurd (cc)
        by false e = e
    still_none (z ∷ rs) (suc k) q none = by (q == z.reader) none (still_none rs k q)
      where
        by : (b : Bool) → cond b (Some z) (reader_of q rs) ≡ None → (reader_of q rs ≡ None → reader_of q (remove rs k) ≡ None) → cond b (Some z) (reader_of q (remove rs k)) ≡ None
        by true e go = absurd (cc)
        by false e go = go e

swap : (a b : ℕ) → (b == a) ≡ false → (a == b) ≡ false
swap a b e = by (a == b) refl
  where
    by : (t : Bool) → (a == b) ≡ t → t ≡ false
    by true f = absurd (eqb-false b a e (sym (eqb-true a b f)))
    by false f = refl

found_after : (readers : List Reader) (r : Reader) (q : ℕ) → reader_of q readers ≡ None → (q == r.reader) ≡ false → reader_of q (readers ++ r ∷ []) ≡ None
found_after [] r q none other = ap (λ b. cond b (Some r) None) other
found_after (x ∷ readers) r q none other = by (q == x.reader) none (found_after readers r q)
  where
    by : (b : Bool) → cond b (Some x) (reader_of q readers) ≡ None → (reader_of q readers ≡ None → (q == r.reader) ≡ false → reader_of q (readers ++ r ∷ []) ≡ None)
        → cond b (Some x) (reader_of q (readers ++ r ∷ [])) ≡ None
    by true e go = absurd (cc)
    by false e go = go e other

apart_with : (readers : List Reader) (r : Reader) → AreApart readers → reader_of r.reader readers ≡ None → AreApart (readers ++ r ∷ [])
apart_with [] r apart none = (refl, tt)
apart_with (x ∷ readers) r apart none = by (r.reader == x.reader) refl none (apart_with readers r apart.1)
  where
    by : (b : Bool) → (r.reader == x.reader) ≡ b → cond b (Some x) (reader_of r.reader readers) ≡ None → (reader_of r.reader readers ≡ None → AreApart (readers ++ r ∷ []))
        → AreApart ((x ∷ readers) ++ r ∷ [])
    by true t e go = absurd (cc)
    by false t e go =
        let other : (x.reader == r.reader) ≡ false = swap x.reader r.reader t in
        (found_after readers r x.reader apart.0 other, go e)

-- the last one taken away
apart_front : (readers : List Reader) (r : Reader) → AreApart (readers ++ r ∷ []) → AreApart readers
apart_front [] r apart = tt
apart_front (x ∷ readers) r apart = (none_front readers x.reader apart.0, apart_front readers r apart.1)
  where
    none_front : (rs : List Reader) (q : ℕ) → reader_of q (rs ++ r ∷ []) ≡ None → reader_of q rs ≡ None
    none_front [] q none = refl
    none_front (z ∷ rs) q none = by (q == z.reader) none (none_front rs q)
      where
        by : (b : Bool) → cond b (Some z) (reader_of q (rs ++ r ∷ [])) ≡ None → (reader_of q (rs ++ r ∷ []) ≡ None → reader_of q rs ≡ None) → cond b (Some z) (reader_of q rs) ≡ None
        by true e go = absurd (cc)
        by false e go = go e

pub once_without : (readers : List Reader) (place : ℕ) → are_apart readers ≡ true → are_apart (remove readers place) ≡ true
once_without readers place once = test_apart (remove readers place) (apart_without readers place (apart readers once))

pub once_with : (readers : List Reader) (r : Reader) → are_apart readers ≡ true → reader_of r.reader readers ≡ None → are_apart (readers ++ r ∷ []) ≡ true
once_with readers r once none = test_apart (readers ++ r ∷ []) (apart_with readers r (apart readers once) none)

pub once_front : (readers all : List Reader) (r : Reader) → all ≡ readers ++ r ∷ [] → are_apart all ≡ true → are_apart readers ≡ true
once_front readers all r is once = test_apart readers (apart_front readers r (apart (readers ++ r ∷ []) (ap are_apart (sym is) ∙ once)))

-- ---- as a map

pub begun_again : (readers : List Reader) (q n number : ℕ) (place : ℕ) → are_apart readers ≡ true → slice_get readers place ≡ Some (record { reader = q; number = n })
    → numbers_in readers ≡ with_reader (numbers_in readers) q number
begun_again readers q n number place once at =
    let r : Reader = record { reader = q; number = n } in
    let there : get (numbers_in readers) q ≡ Some n = get-numbers readers q ∙ ap (option_map (λ (r : Reader). r.number)) (found_at readers place r (apart readers once) at) in
    ap (λ (o : Option ℕ). cond (is_some o) (numbers_in readers) (insert (numbers_in readers) q number)) (sym there)

pub begun_new : (readers : List Reader) (q number : ℕ) → reader_of q readers ≡ None
    → numbers_in (readers ++ (record { reader = q; number = number }) ∷ []) ≡ with_reader (numbers_in readers) q number
begun_new readers q number none =
    let new : Reader = record { reader = q; number = number } in
    let pair : Reader → ℕ × ℕ = λ r. (r.reader, r.number) in
    let absent : map.find nat_cmp q (map pair readers) ≡ None = find-numbers readers q ∙ ap (option_map (λ (r : Reader). r.number)) none in
    let gone : get (numbers_in readers) q ≡ None = get-numbers readers q ∙ ap (option_map (λ (r : Reader). r.number)) none in
    ap (λ es. from_entries {R = nat_cmp} es) (map-append pair readers (new ∷ []))
    ∙ from_entries_push nat_cmp_total nat_cmp-IsAntisymmetric (map pair readers) q number absent
    ∙ ap (λ (o : Option ℕ). cond (is_some o) (numbers_in readers) (insert (numbers_in readers) q number)) (sym gone)

pub ended_at : (readers : List Reader) (place q n : ℕ) → are_apart readers ≡ true → slice_get readers place ≡ Some (record { reader = q; number = n })
    → numbers_in (remove readers place) ≡ map.remove (numbers_in readers) q
ended_at readers place q n once at =
    let r : Reader = record { reader = q; number = n } in
    let number : Reader → ℕ = λ r. r.number in
    same_map nat_cmp_total nat_cmp-IsAntisymmetric (numbers_in (remove readers place)) (map.remove (numbers_in readers) q)
    (λ x. get-numbers (remove readers place) x ∙ ap (option_map number) (found_without readers place r x (apart readers once) at)
    ∙ option_map-cond number (x == q) None (reader_of x readers)
    ∙ ap (cond (x == q) None) (sym (get-numbers readers x))
    ∙ ap (λ b. cond b None (get (numbers_in readers) x)) (sym (unsigned_tied x q))
    ∙ sym (get-remove nat_cmp_total (numbers_in readers) q x))

pub ended_none : (readers : List Reader) (q : ℕ) → reader_of q readers ≡ None → numbers_in readers ≡ map.remove (numbers_in readers) q
ended_none readers q none =
    same_map nat_cmp_total nat_cmp-IsAntisymmetric (numbers_in readers) (map.remove (numbers_in readers) q)
    (λ x. by x (x == q) refl ∙ ap (λ b. cond b None (get (numbers_in readers) x)) (sym (unsigned_tied x q)) ∙ sym (get-remove nat_cmp_total (numbers_in readers) q x))
  where
    gone : get (numbers_in readers) q ≡ None
    gone = get-numbers readers q ∙ ap (option_map (λ (r : Reader). r.number)) none

    by : (x : ℕ) (b : Bool) → (x == q) ≡ b → get (numbers_in readers) x ≡ cond b None (get (numbers_in readers) x)
    by x true e = ap (get (numbers_in readers)) (eqb-true x q e) ∙ gone
    by x false e = refl

pub number_at : (readers : List Reader) (place q n : ℕ) → are_apart readers ≡ true → slice_get readers place ≡ Some (record { reader = q; number = n })
    → Some n ≡ get (numbers_in readers) q
number_at readers place q n once at =
    let r : Reader = record { reader = q; number = n } in
    sym (get-numbers readers q ∙ ap (option_map (λ (r : Reader). r.number)) (found_at readers place r (apart readers once) at))

pub number_none : (readers : List Reader) (q : ℕ) → reader_of q readers ≡ None → None ≡ get (numbers_in readers) q
number_none readers q none = sym (get-numbers readers q ∙ ap (option_map (λ (r : Reader). r.number)) none)

-- a push, made or refused
pub once_pushed : {A E : Type 0} (old new : List Reader) (r : Reader) (result : Result A E) → OnOk result (new ≡ old ++ r ∷ []) → OnErr result (new ≡ old)
    → are_apart old ≡ true → reader_of r.reader old ≡ None → are_apart new ≡ true
once_pushed old new r (Ok x) ok err once none = ap are_apart ok ∙ once_with old r once none
once_pushed old new r (Err e) ok err once none = ap are_apart err ∙ once

pub begun_by : (old new : List Reader) (q n last : ℕ) → new ≡ old ++ (record { reader = q; number = n }) ∷ [] → n ≡ last → reader_of q old ≡ None
    → numbers_in new ≡ with_reader (numbers_in old) q last
begun_by old new q n last is same none = ap numbers_in is ∙ begun_new old q n none ∙ ap (with_reader (numbers_in old) q) same

pub none_left : (readers : List Reader) → readers ≡ [] → numbers_in readers ≡ map.empty
none_left readers e = ap numbers_in e

-- ---- how many found a commit

more : (b : Bool) (s t : ℕ) → s ≡ t + cond b 1 0 → cond b (t + 1) t ≡ s
more true s t e = omega arith
more false s t e = omega arith

-- one more found the last commit, which is pinned once more
pub counted_with : (pins new : ℕ → ℕ) (readers : List Reader) (q number : ℕ)
    → ((c : ℕ) → pins c ≡ count_at readers c) → ((c : ℕ) → new c ≡ (if number == c then pins c + 1 else pins c))
    → (c : ℕ) → new c ≡ count_at (readers ++ (record { reader = q; number = number }) ∷ []) c
counted_with pins new readers q number counted now c =
    now c ∙ ap (λ n. cond (number == c) (n + 1) n) (counted c)
    ∙ more (number == c) (count_at (readers ++ (record { reader = q; number = number }) ∷ []) c) (count_at readers c)
    (sum_by_push (λ (r : Reader). cond (r.number == c) 1 0) readers (record { reader = q; number = number }))

fewer : (b : Bool) (s t : ℕ) → s + cond b 1 0 ≡ t → cond b (t - 1) t ≡ s
fewer true s t e = omega arith
fewer false s t e = omega arith

-- one fewer, and one pin fewer
pub counted_without : (pins new : ℕ → ℕ) (readers : List Reader) (place q number : ℕ) → slice_get readers place ≡ Some (record { reader = q; number = number })
    → ((c : ℕ) → pins c ≡ count_at readers c) → ((c : ℕ) → new c ≡ (if number == c then pins c - 1 else pins c))
    → (c : ℕ) → new c ≡ count_at (remove readers place) c
counted_without pins new readers place q number at counted now c =
    let r : Reader = record { reader = q; number = number } in
    now c ∙ ap (λ n. cond (number == c) (n - 1) n) (counted c)
    ∙ fewer (number == c) (count_at (remove readers place) c) (count_at readers c)
    (ap (λ (x : Reader). count_at (remove readers place) c + cond (x.number == c) 1 0) (sym (get_or_from_slice_get readers place r r at))
    ∙ sum_by-remove (λ (r : Reader). cond (r.number == c) 1 0) readers place r (slice_get_within readers place r at))

pub counted_front : (pins new : ℕ → ℕ) (readers all : List Reader) (last : Reader) → all ≡ readers ++ last ∷ []
    → ((c : ℕ) → pins c ≡ count_at all c) → ((c : ℕ) → new c ≡ (if last.number == c then pins c - 1 else pins c))
    → (c : ℕ) → new c ≡ count_at readers c
counted_front pins new readers all last is counted now c =
    now c ∙ ap (λ n. cond (last.number == c) (n - 1) n) (counted c ∙ ap (λ rs. count_at rs c) is)
    ∙ fewer (last.number == c) (count_at readers c) (count_at (readers ++ last ∷ []) c) (sym (sum_by_push (λ (r : Reader). cond (r.number == c) 1 0) readers last))

-- what a reader found is counted
pub found_counted : (readers : List Reader) (q : ℕ) (r : Reader) → reader_of q readers ≡ Some r → 0 < count_at readers r.number
found_counted [] q r found = cc
found_counted (x ∷ readers) q r found = by (q == x.reader) found (found_counted readers q r)
  where
    whole : count_at (x ∷ readers) r.number ≡ cond (x.number == r.number) 1 0 + count_at readers r.number
    whole = sum_by-cons (λ (y : Reader). cond (y.number == r.number) 1 0) x readers

    by : (b : Bool) → cond b (Some x) (reader_of q readers) ≡ Some r → (reader_of q readers ≡ Some r → 0 < count_at readers r.number) → 0 < count_at (x ∷ readers) r.number
    by true e go =
        let same : x ≡ r = cc in
        let tied : (x.number == r.number) ≡ true = eq-eqb x.number r.number (ap (λ (y : Reader). y.number) same) in
        let one : ◌≡◌ {A = ℕ} (cond (x.number == r.number) 1 0) 1 = ap (λ (b : Bool). cond {A = ℕ} b 1 0) tied in
        omega (arith, whole, one)
    by false e go = let rest = go e in omega (arith, whole, rest)

number_of : (o : Option Reader) (n : ℕ) → option_map (λ (r : Reader). r.number) o ≡ Some n → (r : Reader) × (o ≡ Some r) × (r.number ≡ n)
number_of None n e = cc
number_of (Some r) n e = (r, refl, cc)

pub found_pinned : (readers : List Reader) (pins : ℕ → ℕ) (q n : ℕ) → ((c : ℕ) → pins c ≡ count_at readers c) → get (numbers_in readers) q ≡ Some n → 0 < pins n
found_pinned readers pins q n counted found =
    let there = number_of (reader_of q readers) n (sym (get-numbers readers q) ∙ found) in
    let some = found_counted readers q there.0 there.1 in
    subst (λ c. 0 < pins c) there.2 (subst (λ k. 0 < k) (sym (counted there.0.number)) some)

-- a pin that was given back
back : (b : Bool) (o p w : ℕ) → p ≡ cond b (o + 1) o → w ≡ cond b (p - 1) p → w ≡ o
back true o p w up down = omega arith
back false o p w up down = down ∙ up

pub pinned_back : (old pinned new : ℕ → ℕ) (number last n : ℕ) → number ≡ last → pinned n ≡ (if last == n then old n + 1 else old n)
    → new n ≡ (if number == n then pinned n - 1 else pinned n) → new n ≡ old n
pinned_back old pinned new number last n e up down =
    back (last == n) (old n) (pinned n) (new n) up (down ∙ ap (λ (k : ℕ). cond (k == n) (pinned n - 1) (pinned n)) e)

-- ---- what is kept

pub kept_by_pages : (readers : List Reader) (old new : Versions) → new.last ≡ old.last → new.pages ≡ old.pages → KeepsFound (numbers_in readers) old new
kept_by_pages readers old new last pages = record {
  last = last;
  newest = λ i. pages i old.last;
  found = λ reader number at. λ i. pages i number;
}

pub kept_by_unpin : (readers : List Reader) (old new : Versions) → new.last ≡ old.last → ((c : ℕ) → IsKept new c → new.pages c ≡ old.pages c)
    → ((c : ℕ) → new.pins c ≡ count_at readers c) → KeepsFound (numbers_in readers) old new
kept_by_unpin readers old new last kept counted = record {
  last = last;
  newest = kept old.last (inl (sym last));
  found = λ reader number at. kept number (inr (found_pinned readers new.pins reader number counted at));
}

pub kept_none : (readers : List Reader) (old new : Versions) → readers ≡ [] → new.last ≡ old.last → new.pages old.last ≡ old.pages old.last → KeepsFound (numbers_in readers) old new
kept_none readers old new none last newest = record {
  last = last;
  newest = newest;
  found = λ reader number at.
      let never : ◌≡◌ {A = Option ℕ} None (Some number) = sym (map.get-empty nat_cmp reader) ∙ ap (λ (rs : List Reader). get (numbers_in rs) reader) (sym none) ∙ at in
      absurd (cc);
}

-- one was taken from the end, if there was one
pub once_popped : (old new : List Reader) (result : Option Reader) → MatchOption result ((old ≡ []) × (new ≡ [])) (λ last. old ≡ new ++ last ∷ []) → are_apart old ≡ true → are_apart new ≡ true
once_popped old new None h once = ap are_apart h.1
once_popped old new (Some r) h once = once_front new old r h once
