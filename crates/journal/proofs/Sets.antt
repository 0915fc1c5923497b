-- Going through the pages of a set.
use Rattle.std.proofs.Common.{◌≡◌, ◌≢◌, ℕ, zero, suc, ◌+◌, ◌*◌, ◌<◌, ◌≤◌, List, [], ◌∷◌, length, get_or, drop, refl, sym, ◌∙◌, ap, subst, inl, inr, arith, drop-cons}
use Rattle.std.specs.Prelude.{◌⊎◌, ◌==◌, if◌then◌else◌, slice_range, Result, Ok, Err, OnOk}
use Rattle.std.proofs.lemmas.Bool.{cases_eq}
use Rattle.std.proofs.lemmas.List.{drop_all}
use Rattle.std.proofs.lemmas.Bool.Decides.{nat_tests}
use Rattle.disk.specs.Contents.{overwritten}
use Rattle.disk.specs.Crashes.{Bytes}
use Rattle.journal.specs.Parts.{kept_size, shown, place, block, ChangesOnly}
use Rattle.journal.specs.Lists.{image_in}
use Rattle.journal.specs.Steps.{KeepsOtherPlaces, LiesWithin}
use Rattle.journal.specs.Versions.{put, laid, HasPage, HasImages}
use Rattle.journal.proofs.Ranges.{written_range, written_changes}
use Rattle.journal.proofs.States.{kept_small, apart_places, block_same}

pub kept_behind : (n : ℕ) → n ≢ 0 → kept_size n ≡ 4096
kept_behind zero other = absurd (other refl)
kept_behind (suc n) other = refl

pub kept_first : (n : ℕ) → n ≡ 0 → kept_size n ≡ 20
kept_first n is = ap kept_size is

pub has_at : (set : List (ℕ × List ℕ)) (i : ℕ) (d : ℕ × List ℕ) → i < length set → HasPage (get_or set i d).0 set
has_at [] i d less = absurd (omega arith)
has_at (e ∷ es) zero d less = inl refl
has_at (e ∷ es) (suc i) d less = inr (has_at es i d (omega (arith, less)))

-- an element that is there, whatever stands for one that is not
pub get_or_any : {A : Type 0} (xs : List A) (i : ℕ) (d e : A) → i < length xs → get_or xs i d ≡ get_or xs i e
get_or_any [] i d e less = absurd (omega arith)
get_or_any (x ∷ xs) zero d e less = refl
get_or_any (x ∷ xs) (suc i) d e less = get_or_any xs i d e (omega (arith, less))

-- a place that was written, beside all others
place_of : (number at : ℕ) (page bytes old new : List ℕ) → at ≡ 4096 * number → bytes ≡ shown number page
    → length bytes ≡ kept_size number → new ≡ overwritten old at bytes → 4096 * number + 4096 ≤ length old
    → (n : ℕ) → 4096 * n + 4096 ≤ length old → place new n ≡ put (place old) number page n
place_of number at page bytes old new is part size written within n there = by (cases_eq number n)
  where
    here : slice_range new (4096 * number) (4096 * number + kept_size number) ≡ shown number page
    here =
        ap (λ (k : ℕ). slice_range new k (k + kept_size number)) (sym is)
        ∙ ap (λ (k : ℕ). slice_range new at (at + k)) (sym size)
        ∙ written_range at bytes old new written ∙ part

    aside : (4096 * n + kept_size n ≤ 4096 * number) ⊎ (4096 * number + kept_size number ≤ 4096 * n)
        → (4096 * n + kept_size n ≤ at) ⊎ (at + length bytes ≤ 4096 * n)
    aside (inl left) = inl (omega (arith, left, is))
    aside (inr right) = inr (omega (arith, right, is, size))

    by : (number ≡ n) ⊎ (number ≢ n) → place new n ≡ put (place old) number page n
    by (inl same) =
        let it : put (place old) number page n ≡ shown number page = grind (arith, nat_tests, same) in
        ap (place new) (sym same) ∙ here ∙ sym it
    by (inr other) =
        let it : put (place old) number page n ≡ place old n = grind (arith, nat_tests, other) in
        let small = kept_small n in
        let first = kept_small number in
        let change : ChangesOnly at (length bytes) old new = written_changes at bytes old new (omega (arith, is, size, first, within)) written in
        change.outside (4096 * n) (4096 * n + kept_size n) (omega arith) (omega (arith, small, there))
        (aside (apart_places n number (λ e. other (sym e)))) ∙ sym it

pub place_put : {E : Type 0} (H : Type 0) (result : Result (Unit {0}) E) (number at : ℕ) (page bytes old new : List ℕ)
    → at ≡ 4096 * number → bytes ≡ shown number page → length bytes ≡ kept_size number
    → OnOk result (H → new ≡ overwritten old at bytes)
    → OnOk result (H → 4096 * number + 4096 ≤ length old → (n : ℕ) → 4096 * n + 4096 ≤ length old
    → place new n ≡ put (place old) number page n)
place_put H (Ok done) number at page bytes old new is part size written =
    λ h within n there. place_of number at page bytes old new is part size (written h) within n there
place_put H (Err e) number at page bytes old new is part size written = tt

-- a page of the set in its place, behind those before it
pub laid_next : (set : List (ℕ × List ℕ)) (i : ℕ) (d : ℕ × List ℕ) (p q r : ℕ → List ℕ) (n : ℕ) → i < length set
    → laid (drop i set) p n ≡ r n → q n ≡ put p (get_or set i d).0 (get_or set i d).1 n → laid (drop (i + 1) set) q n ≡ r n
laid_next set i d p q r n less so_far one =
    let next : i + 1 ≡ suc i = omega arith in
    ap (λ (k : ℕ). laid (drop k set) q n) next
    ∙ laid_over (drop (suc i) set) q (put p (get_or set i d).0 (get_or set i d).1) n one
    ∙ sym (ap (λ (l : List (ℕ × List ℕ)). laid l p n) (drop-cons set i d less)) ∙ so_far
  where
    laid_over : (es : List (ℕ × List ℕ)) (a b : ℕ → List ℕ) (m : ℕ) → a m ≡ b m → laid es a m ≡ laid es b m
    laid_over [] a b m same = same
    laid_over (e ∷ es) a b m same = laid_over es (put a e.0 e.1) (put b e.0 e.1) m (λ j. if e.0 == m then shown e.0 e.1 else same j)

-- a page of the set, put or torn in its place, keeps all other places
pub others_next : (set : List (ℕ × List ℕ)) (number : ℕ) (x y z : List ℕ) → HasPage number set → LiesWithin set x
    → KeepsOtherPlaces set x y → ChangesOnly (4096 * number) (kept_size number) y z → KeepsOtherPlaces set x z
others_next set number x y z has within so_far change = record {
  size = change.size ∙ so_far.size;
  places = λ n none there.
      let small = kept_small n in
      change.outside (4096 * n) (4096 * n + kept_size n) (omega arith) (omega (arith, small, there, so_far.size))
      (apart_places n number (λ is. none (subst (λ (k : ℕ). HasPage k set) (sym is) has)))
      ∙ so_far.places n none there;
}

-- images written one behind another
pub images_next : (set : List (ℕ × List ℕ)) (first i : ℕ) (x y : Bytes) → i < length set
    → ((k : ℕ) → k < i → block x (first + k) ≡ image_in set k) → ChangesOnly (4096 * (first + i)) 4096 x y
    → 4096 * (first + i) + 4096 ≤ length x → block y (first + i) ≡ image_in set i
    → (k : ℕ) → k < i + 1 → block y (first + k) ≡ image_in set k
images_next set first i x y less so_far change long here k below = by (cases_eq k i)
  where
    by : (k ≡ i) ⊎ (k ≢ i) → block y (first + k) ≡ image_in set k
    by (inl is) = ap (λ (j : ℕ). block y (first + j)) is ∙ here ∙ sym (ap (image_in set) is)
    by (inr other) =
        let under : k < i = omega (arith, below, other) in
        change.outside (4096 * (first + k)) (4096 * (first + k) + 4096) (omega arith) (omega (arith, long, under)) (inl (omega (arith, under)))
        ∙ so_far k under

-- images behind which a range before them is written
pub images_before : (set : List (ℕ × List ℕ)) (first at n : ℕ) (x y : Bytes) → HasImages x first set
    → ChangesOnly at n x y → at + n ≤ 4096 * first → 4096 * (first + length set) ≤ length x → HasImages y first set
images_before set first at n x y images change apart long i less =
    block_same at n (first + i) x y change (omega (arith, long, less)) (omega (arith, apart)) ∙ images i less

-- a place to which an image was copied, behind a call that changed nothing
pub place_copied : {E : Type 0} (H : Type 0) (result : Result (Unit {0}) E) (number : ℕ) (page old mid new : List ℕ) (from : ℕ)
    → (H → mid ≡ old) → (H → page ≡ block old from)
    → OnOk result (H → 4096 * number + 4096 ≤ length mid → (n : ℕ) → 4096 * n + 4096 ≤ length mid
    → place new n ≡ put (place mid) number page n)
    → OnOk result (H → 4096 * number + 4096 ≤ length old → (n : ℕ) → 4096 * n + 4096 ≤ length old
    → place new n ≡ put (place old) number (block old from) n)
place_copied H (Ok done) number page old mid new from same read placed = λ h within n there.
    let size : length mid ≡ length old = ap (λ (b : List ℕ). length b) (same h) in
    placed h (omega (arith, within, size)) n (omega (arith, there, size))
    ∙ ap (λ (b : List ℕ). put (place b) number page n) (same h) ∙ ap (λ (b : List ℕ). put (place old) number b n) (read h)
place_copied H (Err e) number page old mid new from same read placed = tt

-- all pages of the set in their places
pub laid_all : (set : List (ℕ × List ℕ)) (i : ℕ) (p : ℕ → List ℕ) (n : ℕ) → length set ≤ i → laid (drop i set) p n ≡ p n
laid_all set i p n all = ap (λ (l : List (ℕ × List ℕ)). laid l p n) (drop_all i set all)
