-- The sizes of cells, and where too many of them are cut.
use Rattle.std.proofs.Common.{◌≡◌, ℕ, zero, suc, ◌+◌, ◌*◌, ◌-◌, ◌<◌, ◌≤◌, List, [], ◌∷◌, length, take, drop, sym, ap, ◌∙◌, subst, arith, add-one, length-drop}
use Rattle.std.proofs.lemmas.List.{take-append-drop}
use Rattle.std.specs.Prelude.{slice_index_or}
use Rattle.std.specs.Borrow.{Bor}
use Rattle.sqlrecord.specs.Build.{lent, Fits}
use Rattle.btree_read.proofs.ListLemmas.{each_right}
use Rattle.btree.specs.Overfull.{size_of, AreSmall, IsOverfull}

pub size_parts : (at : ℕ) (cells : List (List ℕ)) → size_of (take at cells) + size_of (drop at cells) ≡ size_of cells
size_parts zero cells = omega arith
size_parts (suc at) [] = omega arith
size_parts (suc at) (c ∷ cells) = let m = size_parts at cells in omega (arith, m)

pub size_grows : (a b : ℕ) (cells : List (List ℕ)) → a ≤ b → size_of (take a cells) ≤ size_of (take b cells)
size_grows zero b cells h = omega arith
size_grows (suc a) zero cells h = absurd (omega arith)
size_grows (suc a) (suc b) [] h = omega arith
size_grows (suc a) (suc b) (c ∷ cells) h = let m = size_grows a b cells (omega arith) in omega (arith, m)

pub size_small : (cells : List (List ℕ)) → AreSmall cells → size_of cells ≤ 1014 * length cells
size_small [] h = omega arith
size_small (c ∷ cells) h = let m = size_small cells h.1 in omega (arith, m, h.0)

pub size_step : (at : ℕ) (cells : List (List ℕ)) → AreSmall cells → size_of (take (suc at) cells) ≤ size_of (take at cells) + 1014
size_step zero [] h = omega arith
size_step (suc at) [] h = omega arith
size_step zero (c ∷ cells) h = omega (arith, h.0)
size_step (suc at) (c ∷ cells) h = let m = size_step at cells h.1 in omega (arith, m)

size_after : (i : ℕ) (cells : List (Bor (List ℕ))) (d : Bor (List ℕ)) → i < length cells → size_of (take (suc i) (lent cells)) ≡ size_of (take i (lent cells)) + (4 + length (slice_index_or cells i d).now)
size_after i [] d h = absurd (omega arith)
size_after zero (c ∷ cells) d h = omega arith
size_after (suc i) (c ∷ cells) d h = let m = size_after i cells d (omega arith) in omega (arith, m)

pub size_next : (i : ℕ) (cells : List (Bor (List ℕ))) (d : Bor (List ℕ)) → i < length cells → size_of (take (i + 1) (lent cells)) ≡ size_of (take i (lent cells)) + (4 + length (slice_index_or cells i d).now)
size_next i cells d h = ap (λ n. size_of (take n (lent cells))) (add-one i) ∙ size_after i cells d h

pub small_drop : (at : ℕ) (cells : List (List ℕ)) → AreSmall cells → AreSmall (drop at cells)
small_drop at cells h = each_right _ (take at cells) (drop at cells) (subst AreSmall (sym (take-append-drop at cells)) h)

-- the first part is at most half a page with its last cell, the second what is left
pub cut_in_middle : (cells : List (List ℕ)) (middle : ℕ) → IsOverfull cells → 0 < middle → size_of (take (middle - 1) cells) < 2040 → 2040 ≤ size_of (take middle cells)
    → (0 < middle) × Fits (take middle cells) × Fits (drop middle cells)
cut_in_middle cells zero w l f b = absurd (omega arith)
cut_in_middle cells (suc m) w l f b =
    let e : suc m - 1 ≡ m = omega arith in
    let p : size_of (take m cells) < 2040 = subst (λ n. size_of (take n cells) < 2040) e f in
    (l, omega (arith, size_step m cells w.small, p), omega (arith, size_parts (suc m) cells, b, w.near))

-- the second part has two cells at most
pub cut_at_most : (cells : List (List ℕ)) (most : ℕ) → IsOverfull cells → length cells ≤ most + 2 → Fits (take most cells)
    → (0 < most) × Fits (take most cells) × Fits (drop most cells)
cut_at_most cells most w l f =
    let all = size_small cells w.small in
    let rest = size_small (drop most cells) (small_drop most cells w.small) in
    let n : length (drop most cells) ≡ length cells - most = length-drop most cells in
    (omega (arith, all, w.over, l), f, omega (arith, rest, n, l))

pub front_fits : (cells : List (List ℕ)) (most middle : ℕ) → most < middle → size_of (take (middle - 1) cells) < 2040 → Fits (take most cells)
front_fits cells most middle l f = let m = size_grows most (middle - 1) cells (omega arith) in omega (arith, m, f)

-- what is left behind the middle takes a quarter of a page
pub middle_fills : (cells : List (List ℕ)) (middle : ℕ) → IsOverfull cells → 0 < middle → size_of (take (middle - 1) cells) < 2040 → 2040 ≤ size_of (take middle cells)
    → (2040 ≤ size_of (take middle cells)) × (1028 ≤ size_of (drop middle cells))
middle_fills cells zero w l f b = absurd (omega arith)
middle_fills cells (suc m) w l f b =
    let e : suc m - 1 ≡ m = omega arith in
    let p : size_of (take m cells) < 2040 = subst (λ n. size_of (take n cells) < 2040) e f in
    (b, omega (arith, size_step m cells w.small, size_parts (suc m) cells, p, w.over))

-- cells that are too many are not all in the first half and two more
pub middle_within : (cells : List (List ℕ)) (most middle : ℕ) → IsOverfull cells → length cells ≤ most + 2 → most < middle → size_of (take (middle - 1) cells) < 2040 → ⊥
middle_within cells most middle w l h f =
    let front = size_grows most (middle - 1) cells (omega arith) in
    let rest = size_small (drop most cells) (small_drop most cells w.small) in
    let n : length (drop most cells) ≡ length cells - most = length-drop most cells in
    omega (arith, front, f, rest, n, l, size_parts most cells, w.over)
