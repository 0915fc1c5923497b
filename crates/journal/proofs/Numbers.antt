-- Numbers of four bytes in a page.
use Rattle.std.proofs.Common.{◌≡◌, ℕ, zero, suc, ◌+◌, ◌-◌, ◌*◌, ◌^◌, ◌<◌, ◌≤◌, List, ◌++◌, length, get_or, take, drop, refl, sym, ap, ◌∙◌, inl, inr, arith}
use Rattle.std.specs.Prelude.{◌⊎◌, replicate}
use Rattle.std.proofs.lemmas.List.{length-take, get_or-take, get_or-drop, get_or_append_left, get_or-append_right, get_or-replicate}
use Rattle.std.proofs.Math.Seq.{drop-append_seam}
use Rattle.byteorder.specs.Endian.{big_from, big_bytes}
use Rattle.byteorder.specs.Numbers.{big_number-reads_back, length-bytes_high_first}
use Rattle.pagefile.specs.Number.{number_at}

-- a number is that of its bytes
pub big_from_same : (n i : ℕ) (xs ys : List ℕ) → ((k : ℕ) → i ≤ k → k < i + n → get_or xs k 0 ≡ get_or ys k 0)
    → big_from i n xs ≡ big_from i n ys
big_from_same zero i xs ys same = refl
big_from_same (suc n) i xs ys same =
    let first = same i (omega arith) (omega arith) in
    let rest = big_from_same n (suc i) xs ys (λ k low high. same k (omega (arith, low)) (omega (arith, high))) in
    λ j. first j * 256 ^ n + rest j

pub number_same : (xs ys : List ℕ) (b : ℕ) → ((k : ℕ) → k < 4 → get_or xs (b + k) 0 ≡ get_or ys (b + k) 0)
    → number_at xs b ≡ number_at ys b
number_same xs ys b same =
    big_from_same 4 0 (drop b xs) (drop b ys) (λ k low high. get_or-drop b xs k 0 ∙ same k (omega (arith, high)) ∙ sym (get_or-drop b ys k 0))

-- a number that was written
pub number_here : (page new : List ℕ) (at n : ℕ) → at ≤ length page → n < 2 ^ 32
    → new ≡ take at page ++ (big_bytes 4 n ++ drop (at + 4) page) → number_at new at ≡ n
number_here page new at n within small is =
    let size : length (take at page) ≡ at = length-take at page ∙ omega (arith, within) in
    let rest = big_bytes 4 n ++ drop (at + 4) page in
    let tail : drop at (take at page ++ rest) ≡ rest =
    ap (λ (k : ℕ). drop k (take at page ++ rest)) (sym size) ∙ drop-append_seam (take at page) rest in
    ap (λ (l : List ℕ). number_at l at) is ∙ ap (λ (l : List ℕ). big_from 0 4 l) tail ∙ big_number-reads_back 4 n (drop (at + 4) page) small

-- and the others
pub number_there : (page new : List ℕ) (at n b : ℕ) → at + 4 ≤ length page
    → new ≡ take at page ++ (big_bytes 4 n ++ drop (at + 4) page) → (b + 4 ≤ at) ⊎ (at + 4 ≤ b)
    → number_at new b ≡ number_at page b
number_there page new at n b within is aside =
    ap (λ (l : List ℕ). number_at l b) is ∙ number_same (take at page ++ (big_bytes 4 n ++ drop (at + 4) page)) page b (λ k less. by k less aside)
  where
    by : (k : ℕ) → k < 4 → (b + 4 ≤ at) ⊎ (at + 4 ≤ b)
        → get_or (take at page ++ (big_bytes 4 n ++ drop (at + 4) page)) (b + k) 0 ≡ get_or page (b + k) 0
    by k less (inl left) =
        let size : length (take at page) ≡ at = length-take at page ∙ omega (arith, within) in
        get_or_append_left (take at page) (big_bytes 4 n ++ drop (at + 4) page) 0 (b + k) (omega (arith, size, left, less))
        ∙ get_or-take at page (b + k) 0 (omega (arith, left, less))
    by k less (inr right) =
        let size : length (take at page) ≡ at = length-take at page ∙ omega (arith, within) in
        let back : at + 4 + (b + k - at - 4) ≡ b + k = omega (arith, right) in
        get_or-append_right (take at page) (big_bytes 4 n ++ drop (at + 4) page) at (b + k) 0 size (omega (arith, right))
        ∙ get_or-append_right (big_bytes 4 n) (drop (at + 4) page) 4 (b + k - at) 0 (length-bytes_high_first 4 n) (omega (arith, right))
        ∙ get_or-drop (at + 4) page (b + k - at - 4) 0
        ∙ ap (λ (j : ℕ). get_or page j 0) back

-- in bytes that are all 255
of_ones : (xs : List ℕ) (b : ℕ) → ((k : ℕ) → k < 4 → get_or xs (b + k) 0 ≡ 255) → number_at xs b ≡ 4294967295
of_ones xs b ones =
    let at : (k : ℕ) → k < 4 → get_or (drop b xs) k 0 ≡ 255 = λ k less. get_or-drop b xs k 0 ∙ ones k less in
    big_from_same 4 0 (drop b xs) (replicate 4 255) (λ k low high. at k (omega (arith, high)) ∙ sym (get_or-replicate 4 k 255 0 (omega (arith, high)))) ∙ refl

pub number_of_ones : (n b : ℕ) → b + 4 ≤ n → number_at (replicate n 255) b ≡ 4294967295
number_of_ones n b within = of_ones (replicate n 255) b (λ k less. get_or-replicate n (b + k) 255 0 (omega (arith, within, less)))
