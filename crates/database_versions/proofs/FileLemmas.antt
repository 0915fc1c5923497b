-- Page 0 as a file has it in its place, and as it is shown.
use Rattle.std.proofs.Common.{◌≡◌, ◌∙◌, ℕ, zero, suc, ◌+◌, ◌-◌, ◌*◌, ◌<◌, ◌≤◌, List, [], ◌∷◌, ◌++◌, true, length, get_or, take, drop, refl, sym, ap, subst, arith}
use Rattle.std.specs.Prelude.{replicate}
use Rattle.std.specs.List.{list_all}
use Rattle.std.proofs.lemmas.List.{length-append, length-drop, length-take, take-append-le, get_or-drop, get_or_append_left, get_or-append_right}
use Rattle.std.proofs.Math.Seq.{take-append_seam, drop-append_seam}
use Rattle.pagefile.specs.declared.header.FileHeader.{FileHeader}
use Rattle.pagefile.specs.Header.{IsHeader, IsInBounds}
use Rattle.pagefile.specs.Number.{number_at}
use Rattle.journal.specs.declared.found.Format.{Format}
use Rattle.journal.specs.declared.found.Format.TheVariants.{Two}
use Rattle.journal.specs.Headers.{IsHeaderOf, magic_2}
use Rattle.journal.specs.Parts.{place}
use Rattle.journal.proofs.Numbers.{number_same}
use Rattle.journaled_file.specs.Shown.{padded}
use Rattle.pool.specs.Zeros.{is_zero, EndsInZeros}

-- a file keeps 20 bytes of page 0
pub place_size : (file : List ℕ) → 4096 ≤ length file → length (place file 0) ≡ 20
place_size file some = length-take 20 file ∙ omega (arith, some)

all_zeros : (n : ℕ) → list_all is_zero (replicate n 0) ≡ true
all_zeros zero = refl
all_zeros (suc n) = all_zeros n

pub padded_zeros : (part : List ℕ) → length part ≡ 20 → EndsInZeros (padded 0 part)
padded_zeros part size =
    let tail : drop 20 (part ++ replicate 4076 0) ≡ replicate 4076 0 =
    ap (λ (k : ℕ). drop k (part ++ replicate 4076 0)) (sym size) ∙ drop-append_seam part (replicate 4076 0) in
    ap (λ (l : List ℕ). list_all is_zero l) tail ∙ all_zeros 4076

number_padded : (part : List ℕ) (b : ℕ) → length part ≡ 20 → b + 4 ≤ 20 → number_at (part ++ replicate 4076 0) b ≡ number_at part b
number_padded part b size low =
    number_same (part ++ replicate 4076 0) part b (λ k less. get_or_append_left part (replicate 4076 0) 0 (b + k) (omega (arith, size, low, less)))

-- the header that is kept is that of the page as it is shown
pub padded_header : (part : List ℕ) (len : ℕ) (h : FileHeader) → length part ≡ 20 → IsHeaderOf len part Two h → IsHeader (padded 0 part) h
padded_header part len h size is = record {
  begins = take-append-le 8 part (replicate 4076 0) (omega (arith, size)) ∙ is.begins;
  page_count = number_padded part 8 size (omega arith) ∙ is.page_count;
  first_free = number_padded part 12 size (omega arith) ∙ is.first_free;
  catalog_root = number_padded part 16 size (omega arith) ∙ is.catalog_root;
}

pub kept_header : (part : List ℕ) (len : ℕ) (h : FileHeader) → length part ≡ 20 → IsHeader (padded 0 part) h → IsInBounds h → 4096 * h.page_count ≤ len
    → IsHeaderOf len part Two h
kept_header part len h size is bounds long = record {
  begins = sym (take-append-le 8 part (replicate 4076 0) (omega (arith, size))) ∙ is.begins;
  page_count = sym (number_padded part 8 size (omega arith)) ∙ is.page_count;
  first_free = sym (number_padded part 12 size (omega arith)) ∙ is.first_free;
  catalog_root = sym (number_padded part 16 size (omega arith)) ∙ is.catalog_root;
  bounds = bounds;
  long = long;
}

number_renewed : (part : List ℕ) (b : ℕ) → 8 ≤ b → number_at (magic_2 ++ drop 8 part) b ≡ number_at part b
number_renewed part b low = number_same (magic_2 ++ drop 8 part) part b (λ k less. same (b + k) (omega (arith, low)))
  where
    same : (i : ℕ) → 8 ≤ i → get_or (magic_2 ++ drop 8 part) i 0 ≡ get_or part i 0
    same i far =
        let at : 8 + (i - 8) ≡ i = omega (arith, far) in
        get_or-append_right magic_2 (drop 8 part) 8 i 0 refl far ∙ get_or-drop 8 part (i - 8) 0 ∙ ap (λ (k : ℕ). get_or part k 0) at

-- and stays the same with the magic of format 2
pub renewed_header : (part : List ℕ) (len : ℕ) (format : Format) (h : FileHeader) → IsHeaderOf len part format h → IsHeaderOf len (magic_2 ++ drop 8 part) Two h
renewed_header part len format h is = record {
  begins = take-append_seam magic_2 (drop 8 part);
  page_count = number_renewed part 8 (omega arith) ∙ is.page_count;
  first_free = number_renewed part 12 (omega arith) ∙ is.first_free;
  catalog_root = number_renewed part 16 (omega arith) ∙ is.catalog_root;
  bounds = is.bounds;
  long = is.long;
}

pub renewed_size : (part : List ℕ) → length part ≡ 20 → length (magic_2 ++ drop 8 part) ≡ 20
renewed_size part size =
    let more : length (magic_2 ++ drop 8 part) ≡ 8 + length (drop 8 part) = length-append magic_2 (drop 8 part) in
    let rest = length-drop 8 part in omega (arith, more, rest, size)
