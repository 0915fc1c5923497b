-- A set of pages, and the version that a journal makes of it.
use Rattle.std.proofs.Common.{◌≡◌, ◌∙◌, ℕ, zero, suc, ◌+◌, ◌-◌, ◌*◌, ◌^◌, ◌<◌, ◌≤◌, ◌==◌, ◌&&◌, Bool, true, false, List, [], ◌∷◌, ◌++◌, Option, Some, None, IsSome, IsTrue, length, take, drop, refl, sym, ap, subst, cond, inl, inr, arith}
use Rattle.std.specs.Prelude.{◌⊎◌, replicate, slice_get, IfSome, Result, Ok, Err, OnOk, OnErr}
use Rattle.std.specs.List.{list_all}
use Rattle.std.specs.Option.{is_some}
use Rattle.std.proofs.lemmas.Bool.{cases_lt, eq-eqb, eqb-true}
use Rattle.std.proofs.lemmas.List.{take-append-drop, take_all, length-drop}
use Rattle.journal.specs.Lists.{number_in, image_in, IsRising}
use Rattle.journal.specs.Parts.{shown}
use Rattle.journal.specs.Versions.{Version, HasPage, IsCommittable, laid}
use Rattle.journal.proofs.Sets.{has_at}
use Rattle.journaled_file.specs.Shown.{padded}
use Rattle.journaled_file.proofs.Laying.{laid_at, laid_beside, has_index}
use Rattle.last_version.specs.Standing.{pages_below}
use Rattle.last_version.proofs.ShownLemmas.{shown_there, shown_gone}
use Rattle.pool.specs.Follows.{MayFollow, IsCovered, HasZeros}
use Rattle.pool.specs.Pages.{PageMap, pick, over, pages_in}
use Rattle.pool.specs.Zeros.{is_zero, EndsInZeros}
use Rattle.pool.proofs.SetLemmas.{pages_cons, pages_here, not_some}

-- ---- which pages a set has

pub has_in : (set : List (ℕ × List ℕ)) (n : ℕ) → IsSome (pages_in set n) → HasPage n set
has_in [] n there = absurd (not_some there)
has_in (e ∷ rest) n there = by (n == e.0) refl (subst (λ (o : Option (List ℕ)). IsSome o) (pages_cons n e.0 e.1 rest) there) (has_in rest n)
  where
    by : (b : Bool) → (n == e.0) ≡ b → IsSome (cond b (Some e.1) (pages_in rest n)) → (IsSome (pages_in rest n) → HasPage n rest) → HasPage n (e ∷ rest)
    by true same h again = inl (eqb-true n e.0 same)
    by false apart h again = inr (again h)

pub in_has : (set : List (ℕ × List ℕ)) (n : ℕ) → HasPage n set → IsSome (pages_in set n)
in_has [] n has = absurd has
in_has (e ∷ rest) n has = subst (λ (o : Option (List ℕ)). IsSome o) (sym (pages_cons n e.0 e.1 rest)) (by (n == e.0) refl has (in_has rest n))
  where
    by : (b : Bool) → (n == e.0) ≡ b → HasPage n (e ∷ rest) → (HasPage n rest → IsSome (pages_in rest n)) → IsSome (cond b (Some e.1) (pages_in rest n))
    by true same h again = refl
    by false apart (inl is) again = let bad : false ≡ true = sym apart ∙ eq-eqb n e.0 is in cc
    by false apart (inr more) again = again more

pub none_has : (set : List (ℕ × List ℕ)) (n : ℕ) → pages_in set n ≡ None → HasPage n set → ⊥
none_has set n none has = not_some (subst (λ (o : Option (List ℕ)). IsSome o) none (in_has set n has))

pub has_none : (set : List (ℕ × List ℕ)) (n : ℕ) → is_some (pages_in set n) ≡ false → HasPage n set → ⊥
has_none set n none has = by (pages_in set n) none (in_has set n has)
  where
    by : (o : Option (List ℕ)) → is_some o ≡ false → IsSome o → ⊥
    by None e h = not_some h
    by (Some page) e h = let bad : true ≡ false = e in cc

-- the place of a page in a set
index_in : (set : List (ℕ × List ℕ)) (n : ℕ) (page : List ℕ) → pages_in set n ≡ Some page
    → (i : ℕ) × (i < length set) × (number_in set i ≡ n) × (image_in set i ≡ page)
index_in [] n page e = let bad : None ≡ Some page = e in cc
index_in (x ∷ rest) n page e = by (n == x.0) refl (sym (pages_cons n x.0 x.1 rest) ∙ e) (index_in rest n page)
  where
    by : (b : Bool) → (n == x.0) ≡ b → cond b (Some x.1) (pages_in rest n) ≡ Some page
        → (pages_in rest n ≡ Some page → (i : ℕ) × (i < length rest) × (number_in rest i ≡ n) × (image_in rest i ≡ page))
        → (i : ℕ) × (i < length (x ∷ rest)) × (number_in (x ∷ rest) i ≡ n) × (image_in (x ∷ rest) i ≡ page)
    by true same h again = (0, omega arith, sym (eqb-true n x.0 same), inside h)
      where
        inside : Some x.1 ≡ Some page → x.1 ≡ page
        inside h = cc
    by false apart h again = let at = again h in (suc at.0, omega (arith, at.1), at.2, at.3)

pub laid_in : (set : List (ℕ × List ℕ)) (p : ℕ → List ℕ) (n : ℕ) (page : List ℕ) → IsRising set → pages_in set n ≡ Some page
    → laid set p n ≡ shown n page
laid_in set p n page rising is =
    let at = index_in set n page is in laid_at set at.0 n p rising at.1 at.2 ∙ ap (shown n) at.3

-- ---- whole pages

all_zero : (xs : List ℕ) (k : ℕ) → length xs ≡ k → list_all is_zero xs ≡ true → xs ≡ replicate k 0
all_zero [] zero size zeros = refl
all_zero [] (suc k) size zeros = absurd (omega (arith, size))
all_zero (x ∷ xs) zero size zeros = absurd (omega (arith, size))
all_zero (x ∷ xs) (suc k) size zeros =
    let both = split (x == 0) (list_all is_zero xs) zeros in
    let first : x ≡ 0 = eqb-true x 0 both.0 in
    let rest = all_zero xs k (omega (arith, size)) both.1 in λ i. first i ∷ rest i
  where
    split : (a b : Bool) → (a && b) ≡ true → (a ≡ true) × (b ≡ true)
    split true b h = (refl, h)
    split false b h = let bad : false ≡ true = h in cc

-- a page as a version shows it is the page, where behind the header of page 0 there are zeros
pub as_shown : (n : ℕ) (page : List ℕ) → length page ≡ 4096 → (n ≡ 0 → EndsInZeros page) → padded n (shown n page) ≡ page
as_shown zero page size zeros =
    let behind : length (drop 20 page) ≡ 4076 = length-drop 20 page ∙ omega (arith, size) in
    let rest : drop 20 page ≡ replicate 4076 0 = all_zero (drop 20 page) 4076 behind (zeros refl) in
    ap (λ (l : List ℕ). take 20 page ++ l) (sym rest) ∙ take-append-drop 20 page
as_shown (suc n) page size zeros = take_all 4096 page (omega (arith, size))

-- ---- the count of pages behind a commit

rises : (set : List (ℕ × List ℕ)) → IsRising set → (i k : ℕ) → i + k < length set → number_in set i ≤ number_in set (i + k)
rises set rising i zero less = let same : i + 0 ≡ i = omega arith in let e = ap (number_in set) same in omega (arith, e)
rises set rising i (suc k) less =
    let so_far = rises set rising i k (omega (arith, less)) in
    let next : suc (i + k) ≡ i + suc k = omega arith in
    let one = rising (i + k) (omega (arith, less)) in
    let e = ap (number_in set) next in omega (arith, so_far, one, e)

pub committable : (v : Version) (set : List (ℕ × List ℕ)) (count : ℕ) → IsRising set → 1 ≤ v.count → IsCovered v.count set count → IsCommittable v set count
committable v set count rising first covered = record {
  some = omega (arith, first, covered.grows);
  grows = covered.grows;
  within = covered.within;
  rising = rising;
  covered = covered.covered;
}

-- ---- pages that may not be committed

-- a number that lies behind a gap, or that is the last of all
pub never_follows : (set : List (ℕ × List ℕ)) (i count next top : ℕ) (pages : PageMap) → IsRising set → i < length set → count ≤ next
    → ((k : ℕ) → k < i → number_in set k < next) → ((n : ℕ) → count ≤ n → pages n ≡ None)
    → ((n : ℕ) → IsSome (pages_in set n) → n < top) → (next < number_in set i) ⊎ (number_in set i ≡ top) → MayFollow (pages_in set) pages → ⊥
never_follows set i count next top pages rising less more under none low (inr last) follows =
    let fits = low (number_in set i) (in_has set (number_in set i) (has_at set i (0, []) less)) in omega (arith, fits, last)
never_follows set i count next top pages rising less more under none low (inl gap) follows =
    apart (pages_in set next) refl (follows.gapless next (number_in set i) gap (in_has set (number_in set i) (has_at set i (0, []) less)))
  where
    at : (k : ℕ) → k < length set → number_in set k ≡ next → (k < i) ⊎ (i ≤ k) → ⊥
    at k there is (inl before) = let below = under k before in omega (arith, below, is)
    at k there is (inr after) =
        let step : i + (k - i) ≡ k = omega (arith, after) in
        let most = rises set rising i (k - i) (omega (arith, step, there)) in
        let e = ap (number_in set) step in omega (arith, most, e, is, gap)

    not_there : HasPage next set → ⊥
    not_there has = let k = has_index next set has in at k.0 k.1 k.2 (cases_lt k.0 i)

    apart : (o : Option (List ℕ)) → pages_in set next ≡ o → IsSome (pick o (pages next)) → ⊥
    apart (Some page) e h = not_there (has_in set next (subst (λ (o : Option (List ℕ)). IsSome o) (sym e) refl))
    apart None e h = not_some (subst (λ (o : Option (List ℕ)). IsSome o) (none next more) h)

-- the pages that are there so far, and one more
pub covered_more : (set : List (ℕ × List ℕ)) (i count next new : ℕ) → i < length set → ((n : ℕ) → count ≤ n → n < next → HasPage n set)
    → ((n : ℕ) → next ≤ n → n < new → n ≡ number_in set i) → (n : ℕ) → count ≤ n → n < new → HasPage n set
covered_more set i count next new there so_far one n more less = by (cases_lt n next)
  where
    by : (n < next) ⊎ (next ≤ n) → HasPage n set
    by (inl before) = so_far n more before
    by (inr behind) = subst (λ (k : ℕ). HasPage k set) (sym (one n behind less)) (has_at set i (0, []) there)

-- all are below where each is
pub all_within : (set : List (ℕ × List ℕ)) (new : ℕ) → ((k : ℕ) → k < length set → number_in set k < new) → (n : ℕ) → HasPage n set → n < new
all_within set new each n has = let at = has_index n set has in let less = each at.0 at.1 in omega (arith, less, at.2)

-- page 0 is the first of a set, if it is one of it
pub first_zeros : (set : List (ℕ × List ℕ)) → IsRising set → ((0 < length set) → number_in set 0 ≡ 0 → EndsInZeros (image_in set 0)) → HasZeros (pages_in set)
first_zeros set rising zeros page is = by at.0 at.1 at.2 at.3
  where
    at : (i : ℕ) × (i < length set) × (number_in set i ≡ 0) × (image_in set i ≡ page)
    at = index_in set 0 page is

    by : (i : ℕ) → i < length set → number_in set i ≡ 0 → image_in set i ≡ page → EndsInZeros page
    by zero less number same = subst EndsInZeros same (zeros less number)
    by (suc i) less number same =
        let one = rising 0 (omega (arith, less)) in
        let most = rises set rising 1 i (omega (arith, less)) in
        let e : number_in set (1 + i) ≡ number_in set (suc i) = ap (number_in set) (omega arith) in absurd (omega (arith, one, most, e, number))

-- by the first page of a set
pub zeros_of : (set : List (ℕ × List ℕ)) (item : ℕ × List ℕ) → IsRising set → slice_get set 0 ≡ Some item → (item.0 ≡ 0 → EndsInZeros item.1) → HasZeros (pages_in set)
zeros_of [] item rising is zeros = let bad : None ≡ Some item = is in cc
zeros_of (x ∷ rest) item rising is zeros =
    let same : x ≡ item = (let e : Some x ≡ Some item = is in cc) in
    first_zeros (x ∷ rest) rising
    (λ some first. subst EndsInZeros (ap (λ (e : ℕ × List ℕ). e.1) (sym same)) (zeros (ap (λ (e : ℕ × List ℕ). e.0) (sym same) ∙ first)))

pub not_zeros : (set : List (ℕ × List ℕ)) (item : ℕ × List ℕ) → slice_get set 0 ≡ Some item → item.0 ≡ 0 → (EndsInZeros item.1 → ⊥) → HasZeros (pages_in set) → ⊥
not_zeros [] item is first none zeros = let bad : None ≡ Some item = is in cc
not_zeros (x ∷ rest) item is first none zeros =
    let same : x ≡ item = (let e : Some x ≡ Some item = is in cc) in
    let number : x.0 ≡ 0 = ap (λ (e : ℕ × List ℕ). e.0) same ∙ first in
    none (subst EndsInZeros (ap (λ (e : ℕ × List ℕ). e.1) same)
    (zeros x.1 (subst (λ (k : ℕ). pages_in (x ∷ rest) k ≡ Some x.1) number (pages_here x.0 x.1 rest))))

pub no_page : (set : List (ℕ × List ℕ)) → slice_get set 0 ≡ None → HasZeros (pages_in set)
no_page [] is page there = let bad : None ≡ Some page = there in cc
no_page (x ∷ rest) is page there = let bad : Some x ≡ None = is in cc

-- which page a set has under the number of one of its places
pub page_at : (set : List (ℕ × List ℕ)) → IsRising set → 0 < length set → number_in set 0 ≡ 0 → pages_in set 0 ≡ Some (image_in set 0)
page_at [] rising some is = absurd (omega (arith, some))
page_at (e ∷ rest) rising some is = pages_cons 0 e.0 e.1 rest ∙ ap (λ b. cond b (Some e.1) (pages_in rest 0)) (eq-eqb 0 e.0 (sym is))

-- there is one such count
no_more : (v : Version) (set : List (ℕ × List ℕ)) (a b : ℕ) → IsCommittable v set a → IsCommittable v set b → b ≤ a
no_more v set a b fits other = by (cases_lt a b)
  where
    by : (a < b) ⊎ (b ≤ a) → b ≤ a
    by (inr le) = le
    by (inl less) =
        let within = fits.within (b - 1) (other.covered (b - 1) (omega (arith, less, fits.grows)) (omega (arith, less))) in
        absurd (omega (arith, within, less))

pub one_count : (v : Version) (set : List (ℕ × List ℕ)) (a b : ℕ) → IsCommittable v set a → IsCommittable v set b → a ≡ b
one_count v set a b fits other = let most = no_more v set a b fits other in let least = no_more v set b a other fits in omega (arith, most, least)

-- ---- what a commit shows

pub shown_over : (v : Version) (set : List (ℕ × List ℕ)) (count : ℕ) → IsCommittable v set count
    → ((i : ℕ) → i < length set → length (image_in set i) ≡ 4096) → ((page : List ℕ) → pages_in set 0 ≡ Some page → EndsInZeros page)
    → (n : ℕ) → pages_below count (laid set v.pages) n ≡ over (pages_in set) (pages_below v.count v.pages) n
shown_over v set count fits sized zeros n = by (pages_in set n) refl
  where
    part : (page : List ℕ) → pages_in set n ≡ Some page → padded n (laid set v.pages n) ≡ page
    part page is =
        let at = index_in set n page is in
        let size : length page ≡ 4096 = ap (λ (l : List ℕ). length l) (sym at.3) ∙ sized at.0 at.1 in
        ap (padded n) (laid_in set v.pages n page fits.rising is)
        ∙ as_shown n page size (λ first. zeros page (ap (pages_in set) (sym first) ∙ is))

    beside : (HasPage n set → ⊥) → pages_below count (laid set v.pages) n ≡ pages_below v.count v.pages n
    beside none = sides (cases_lt n v.count) (cases_lt n count)
      where
        sides : (n < v.count) ⊎ (v.count ≤ n) → (n < count) ⊎ (count ≤ n) → pages_below count (laid set v.pages) n ≡ pages_below v.count v.pages n
        sides (inl less) (inl low) =
            shown_there count (laid set v.pages) n low ∙ ap (λ (p : List ℕ). Some (padded n p)) (laid_beside set v.pages n none)
            ∙ sym (shown_there v.count v.pages n less)
        sides (inl less) (inr high) = absurd (omega (arith, less, high, fits.grows))
        sides (inr more) (inl low) = absurd (none (fits.covered n more low))
        sides (inr more) (inr high) = shown_gone count (laid set v.pages) n high ∙ sym (shown_gone v.count v.pages n more)

    by : (o : Option (List ℕ)) → pages_in set n ≡ o → pages_below count (laid set v.pages) n ≡ pick o (pages_below v.count v.pages n)
    by (Some page) is =
        shown_there count (laid set v.pages) n (fits.within n (has_in set n (subst (λ (o : Option (List ℕ)). IsSome o) (sym is) refl)))
        ∙ ap (λ (p : List ℕ). Some p) (part page is)
    by None is = beside (none_has set n is)

-- fewer pages wait, whether a commit was carried out or not
pub either_fewer : {E : Type 0} (result : Result (Unit {0}) E) (new old : ℕ) → OnOk result (new ≡ 0) → OnErr result (new ≤ old) → new ≤ old
either_fewer (Ok done) new old none less = omega (arith, none)
either_fewer (Err e) new old none less = less

-- what holds anyhow, holds of a count
pub some_any : {T A : Type 0} (o : Option T) → A → IfSome o (λ t. A)
some_any None has = tt
some_any (Some t) has = has
