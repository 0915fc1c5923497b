-- A new file.
use Rattle.std.proofs.Common.{◌≡◌, ◌∙◌, ◌⊎◌, ℕ, ◌*◌, ◌≤◌, [], ◌++◌, length, refl, ap, inl, inr, arith}
use Rattle.std.specs.Prelude.{replicate}
use Rattle.std.proofs.lemmas.List.{length-replicate, nil_from_length}
use Rattle.disk.specs.Contents.{resized}
use Rattle.disk.proofs.ContentsLemmas.{length_resized}
use Rattle.disk.specs.Crashes.{Bytes, IsCut}
use Rattle.pagefile.specs.Whole.{IsPartlyMade}
use Rattle.byteorder.specs.Endian.{big_bytes}
use Rattle.byteorder.specs.Numbers.{big_number-reads_back}
use Rattle.pagefile.specs.declared.header.FileHeader.{FileHeader}
use Rattle.pagefile.specs.Header.{IsInBounds}
use Rattle.journal.specs.declared.found.Format.TheVariants.{Two}
use Rattle.journal.specs.Headers.{IsHeaderOf}
use Rattle.journal.specs.New.{header_bytes_2}
use Rattle.journal.specs.Parts.{ChangesOnly}

pub length_header_2 : (h : FileHeader) → length (header_bytes_2 h) ≡ 4096
length_header_2 h = let zeros = length-replicate {A = ℕ} 4076 0 in omega (arith, zeros)

pub header_2_reads : (h : FileHeader) → IsInBounds h → (len : ℕ) → 4096 * h.page_count ≤ len → IsHeaderOf len (header_bytes_2 h) Two h
header_2_reads h bounds len long = record {
  begins = refl;
  page_count = big_number-reads_back 4 h.page_count (big_bytes 4 h.first_free ++ (big_bytes 4 h.catalog_root ++ replicate 4076 0)) (omega (arith, bounds.few));
  first_free = big_number-reads_back 4 h.first_free (big_bytes 4 h.catalog_root ++ replicate 4076 0) (omega (arith, bounds.few, bounds.free));
  catalog_root = big_number-reads_back 4 h.catalog_root (replicate 4076 0) (omega (arith, bounds.few, bounds.root));
  bounds = bounds;
  long = long;
}

-- ---- a device that was empty, or has 4,096 bytes

pub partly_cut : (d c : Bytes) → IsPartlyMade [] d → IsCut 4096 d c → IsPartlyMade [] c
partly_cut d c made cut = by made cut.size
  where
    by : IsPartlyMade [] d → (length c ≡ length d) ⊎ (length c ≡ 4096) → IsPartlyMade [] c
    by (inl none) (inl same) = inl (nil_from_length c (same ∙ ap (λ (b : Bytes). length b) none))
    by (inr whole) (inl same) = inr (same ∙ whole)
    by some (inr set) = inr set

pub partly_within : (d c : Bytes) → IsPartlyMade [] d → ChangesOnly 0 4096 d c → IsPartlyMade [] c
partly_within d c made changes = by made
  where
    by : IsPartlyMade [] d → IsPartlyMade [] c
    by (inl none) = inl (nil_from_length c (changes.size ∙ ap (λ (b : Bytes). length b) none))
    by (inr whole) = inr (changes.size ∙ whole)

-- a length that was set
pub resized_to : (old new : Bytes) → new ≡ resized old 4096 → 4096 ≤ length new
resized_to old new is =
    let size : length new ≡ length (resized old 4096) = ap (λ (b : Bytes). length b) is in
    let long = length_resized old 4096 in omega (arith, size, long)
