-- The cells of a page that is not damaged fit into a page: no place of it is taken by two cells.
use Rattle.std.proofs.Common.{◌≡◌, ℕ, zero, suc, ◌+◌, ◌-◌, ◌*◌, ◌<◌, ◌≤◌, List, [], ◌∷◌, ◌++◌, length, refl, arith, inl, inr}
use Rattle.std.specs.Prelude.{◌⊎◌, min, max, slice_range}
use Rattle.std.proofs.lemmas.Bool.{cases_lt}
use Rattle.std.proofs.lemmas.List.{length-take}
use Rattle.sqlrecord.specs.declared.kind.PageKind.{PageKind}
use Rattle.sqlrecord.specs.Page.{count_of, offset_of, length_of, cell_of, cells_of, cells_upto, AreApart, IsSound}
use Rattle.sqlrecord.specs.Build.{total_of, Fits}
use Rattle.sqlrecord.proofs.PageLemmas.{length_cells}

-- how many bytes of the first n cells lie before this place
abbrev covered : List ℕ → ℕ → ℕ → ℕ
covered page zero place = 0
covered page (suc n) place = covered page n place + (min (offset_of page n + length_of page n) place - min (offset_of page n) place)

-- of a cell from a up to b that does not have the byte at this place
same_part : (a b place : ℕ) → a ≤ b → (a ≤ place → place < b → ⊥) → min b (suc place) - min a (suc place) ≡ min b place - min a place
same_part a b place order out = by (cases_lt place a) (cases_lt place b)
  where
    by : (place < a) ⊎ (a ≤ place) → (place < b) ⊎ (b ≤ place) → min b (suc place) - min a (suc place) ≡ min b place - min a place
    by (inl l) other = omega (arith, l, order)
    by (inr l) (inl m) = absurd (out l m)
    by (inr l) (inr m) = omega (arith, l, m)

clash : (a b c d place : ℕ) → min b d ≤ max a c → a ≤ place → place < b → c ≤ place → place < d → ⊥
clash a b c d place apart l m n o = omega (arith, apart, l, m, n, o)

-- no cell has the byte at this place
quiet : (page : List ℕ) (n place : ℕ) → ((i : ℕ) → i < n → offset_of page i ≤ place → place < offset_of page i + length_of page i → ⊥)
    → covered page n (suc place) ≡ covered page n place
quiet page zero place none = refl
quiet page (suc n) place none =
    let before = quiet page n place (λ i l. none i (omega (arith, l))) in
    let last = same_part (offset_of page n) (offset_of page n + length_of page n) place (omega arith) (none n (omega arith)) in
    rw (before, last) refl

-- one cell at most has the byte at a place
one_more : (page : List ℕ) (n place : ℕ) → ((i j : ℕ) → i < j → j < n → AreApart page i j) → covered page n (suc place) ≤ suc (covered page n place)
one_more page zero place apart = omega arith
one_more page (suc n) place apart =
    by (cases_lt place (offset_of page n)) (cases_lt place (offset_of page n + length_of page n)) (one_more page n place (λ i j l m. apart i j l (omega (arith, m))))
  where
    by : (place < offset_of page n) ⊎ (offset_of page n ≤ place) → (place < offset_of page n + length_of page n) ⊎ (offset_of page n + length_of page n ≤ place)
        → covered page n (suc place) ≤ suc (covered page n place) → covered page (suc n) (suc place) ≤ suc (covered page (suc n) place)
    by (inl l) other before = omega (arith, l, before)
    by (inr l) (inr m) before = omega (arith, l, m, before)
    by (inr l) (inl m) before =
        let none = quiet page n place (λ i less a b. clash (offset_of page i) (offset_of page i + length_of page i) (offset_of page n) (offset_of page n + length_of page n) place (apart i n less (omega arith)) a b l m) in
        omega (arith, l, m, none)

none_below : (page : List ℕ) (n low : ℕ) → ((i : ℕ) → i < n → low ≤ offset_of page i) → covered page n low ≤ 0
none_below page zero low behind = omega arith
none_below page (suc n) low behind =
    let before = none_below page n low (λ i l. behind i (omega (arith, l))) in
    let last = behind n (omega arith) in
    omega (arith, before, last)

-- k places have k bytes of cells at most
within : (page : List ℕ) (n low k : ℕ) → ((i : ℕ) → i < n → low ≤ offset_of page i) → ((i j : ℕ) → i < j → j < n → AreApart page i j) → covered page n (low + k) ≤ k
within page n low zero behind apart = let z : low + 0 ≡ low = omega arith in rw z (none_below page n low behind)
within page n low (suc k) behind apart =
    let z : low + suc k ≡ suc (low + k) = omega arith in
    let before = within page n low k behind apart in
    let next = one_more page n (low + k) apart in
    rw z (omega (arith, before, next))

pub total_push : (cells : List (List ℕ)) (cell : List ℕ) → total_of (cells ++ cell ∷ []) ≡ total_of cells + length cell
total_push [] cell = omega arith
total_push (first ∷ cells) cell = let more = total_push cells cell in omega (arith, more)

cell_length : (page : List ℕ) (at n : ℕ) → length (slice_range page at (at + n)) ≤ n
cell_length page at n = rw length-take (omega arith)

-- all bytes of the cells lie before the end of the page
all_covered : (page : List ℕ) (n : ℕ) → ((i : ℕ) → i < n → offset_of page i + length_of page i ≤ 4096) → total_of (cells_upto page n) ≤ covered page n 4096
all_covered page zero ends = omega arith
all_covered page (suc n) ends =
    let before = all_covered page n (λ i l. ends i (omega (arith, l))) in
    let sum = total_push (cells_upto page n) (cell_of page n) in
    let long = cell_length page (offset_of page n) (length_of page n) in
    let last = ends n (omega arith) in
    omega (arith, before, sum, long, last)

pub sound_fit : (page : List ℕ) (kind : PageKind) → IsSound page kind → Fits (cells_of page)
unfolding cells_of
sound_fit page kind sound =
    let room = sound.slots.room in
    let all = all_covered page (count_of page) sound.slots.within in
    let few = within page (count_of page) (16 + 4 * count_of page) (4080 - 4 * count_of page) sound.slots.behind sound.apart in
    let end : 16 + 4 * count_of page + (4080 - 4 * count_of page) ≡ 4096 = omega (arith, room) in
    let number = length_cells page in
    omega (arith, room, all, rw end at few, number)
