-- Writes that a crash may cut, as changes of pages and of the parts of page 0.
use Rattle.std.proofs.Common.{◌≡◌, ℕ, ◌+◌, ◌-◌, ◌*◌, ◌<◌, ◌≤◌, List, length, get_or, sym, ap, ◌∙◌, inl, inr, arith, Some}
use Rattle.std.specs.Prelude.{◌⊎◌, slice_range}
use Rattle.std.proofs.lemmas.List.{ext_get_or}
use Rattle.std.proofs.lemmas.List.Edits.{length-between, get_or-between}
use Rattle.disk.specs.Crashes.{IsSpread, IsCut}
use Rattle.pagefile.specs.Header.{header_size}
use Rattle.pagefile.specs.Parts.{IsSpreadPage, IsSpreadPart, IsCutTo, IsSpreadGate, IsSpreadStart, IsSpreadVersioned, gate_at}
use Rattle.pagefile.proofs.PageLemmas.{torn_keeps, page_there, page_within}

-- files with the same bytes from a to b
same_between : (old new : List ℕ) (a b : ℕ) → a ≤ b → b ≤ length old → b ≤ length new
    → ((i : ℕ) → a ≤ i → i < b → get_or new i 0 ≡ get_or old i 0) → slice_range new a b ≡ slice_range old a b
same_between old new a b order fits fits_new same =
    ext_get_or 0 _ _ (length-between new a b fits_new ∙ sym (length-between old a b fits))
    (λ i h.
    let within : i < b - a = rw (← length-between new a b fits_new) h in
    get_or-between new a b i 0 (omega (arith, within))
    ∙ same (a + i) (omega arith) (omega (arith, within))
    ∙ sym (get_or-between old a b i 0 (omega (arith, within))))

-- a page
pub spread_page : (size n : ℕ) (old new : List ℕ) → IsSpread size (4096 * n) 4096 old new → IsSpreadPage size n old new
spread_page size n old new spread = record {
  others = torn_keeps n old new spread.torn;
  within = spread.within;
}

-- a part of page 0
pub spread_part : (size at n : ℕ) (old new : List ℕ) → at + n ≤ 4096 → 4096 ≤ size → IsSpread size at n old new
    → IsSpreadPart at n old new
spread_part size at n old new first whole spread = record {
  pages = λ m above there.
      let fits = page_within old m there in
      page_there new m (omega (arith, fits, spread.torn.no_shorter))
      ∙ ap Some (same_between old new (4096 * m) (4096 * m + 4096) (omega arith) fits (omega (arith, fits, spread.torn.no_shorter))
      (λ i low high. spread.torn.behind i (omega (arith, fits, high)) (omega (arith, first, above, low))))
      ∙ sym (page_there old m fits);
  parts = λ a b order fits outside.
      same_between old new a b order fits (omega (arith, fits, spread.torn.no_shorter)) (same a b fits outside);
  size = spread.within (omega (arith, first, whole));
}
  where
    same : (a b : ℕ) → b ≤ length old → (b ≤ at) ⊎ (at + n ≤ a) → (i : ℕ) → a ≤ i → i < b
        → get_or new i 0 ≡ get_or old i 0
    same a b fits (inl left) i low high = spread.torn.before i (omega (arith, fits, high)) (omega (arith, left, high))
    same a b fits (inr right) i low high = spread.torn.behind i (omega (arith, fits, high)) (omega (arith, right, low))

-- the gate
pub spread_gate : (size : ℕ) (old new : List ℕ) → 4096 ≤ size → 4096 ≤ length old → IsSpread size gate_at 1 old new
    → IsSpreadGate old new
spread_gate size old new whole there spread =
    let part = spread_part size gate_at 1 old new (omega arith) whole spread in
    record {
      versioned = part.parts 0 header_size (omega arith) (omega (arith, there)) (inl (omega arith));
      start = part.parts header_size gate_at (omega arith) (omega (arith, there)) (inl (omega arith));
      pages = part.pages;
      size = part.size;
    }

-- what names the journal's first block
pub spread_start : (size : ℕ) (old new : List ℕ) → 4096 ≤ size → 4096 ≤ length old → IsSpread size header_size 4 old new
    → IsSpreadStart old new
spread_start size old new whole there spread =
    let part = spread_part size header_size 4 old new (omega arith) whole spread in
    record {
      versioned = part.parts 0 header_size (omega arith) (omega (arith, there)) (inl (omega arith));
      gate = part.parts gate_at (gate_at + 1) (omega arith) (omega (arith, there)) (inr (omega arith));
      pages = part.pages;
      size = part.size;
    }

-- the part that a version keeps
pub spread_versioned : (size : ℕ) (old new : List ℕ) → 4096 ≤ size → 4096 ≤ length old → IsSpread size 0 header_size old new
    → IsSpreadVersioned old new
spread_versioned size old new whole there spread =
    let part = spread_part size 0 header_size old new (omega arith) whole spread in
    record {
      start = part.parts header_size gate_at (omega arith) (omega (arith, there)) (inr (omega arith));
      gate = part.parts gate_at (gate_at + 1) (omega arith) (omega (arith, there)) (inr (omega arith));
      pages = part.pages;
      size = part.size;
    }

-- a length
pub cut_to : (k : ℕ) (old new : List ℕ) → IsCut (4096 * k) old new → IsCutTo k old new
cut_to k old new cut = record {
  pages = λ m below there.
      let fits = page_within old m there in
      let fits_new = long m below fits cut.size in
      page_there new m fits_new
      ∙ ap Some (same_between old new (4096 * m) (4096 * m + 4096) (omega arith) fits fits_new
      (λ i low high. cut.front i (omega (arith, fits, high)) (omega (arith, fits_new, high)) (omega (arith, below, high))))
      ∙ sym (page_there old m fits);
  size = cut.size;
}
  where
    long : (m : ℕ) → m < k → 4096 * m + 4096 ≤ length old → (length new ≡ length old) ⊎ (length new ≡ 4096 * k)
        → 4096 * m + 4096 ≤ length new
    long m below fits (inl same) = omega (arith, fits, same)
    long m below fits (inr set) = omega (arith, below, set)
