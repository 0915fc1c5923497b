-- What writes, cut or carried out, do to ranges of a file's bytes.
use Rattle.std.proofs.Common.{◌≡◌, ℕ, ◌+◌, ◌-◌, ◌<◌, ◌≤◌, List, ◌++◌, length, get_or, drop, refl, sym, ap, subst, ◌∙◌, inl, inr, arith, append_assoc}
use Rattle.std.specs.Prelude.{◌⊎◌, slice_range, Result, Ok, Err, OnOk, OnErr}
use Rattle.std.proofs.lemmas.List.{ext_get_or, take-append-le, take_all}
use Rattle.std.proofs.lemmas.List.Edits.{length-between, get_or-between}
use Rattle.std.proofs.Math.Seq.{drop-append_seam}
use Rattle.disk.specs.Contents.{resized, overwritten, IsTorn}
use Rattle.disk.specs.Crashes.{IsSpread, IsCut}
use Rattle.disk.proofs.ContentsLemmas.{length_resized, overwritten_torn}
use Rattle.journal.specs.Parts.{ChangesOnly, KeepsFront}

-- files with the same bytes from a to b
pub same_between : (old new : List ℕ) (a b : ℕ) → a ≤ b → b ≤ length old → b ≤ length new
    → ((i : ℕ) → a ≤ i → i < b → get_or new i 0 ≡ get_or old i 0) → slice_range new a b ≡ slice_range old a b
same_between old new a b order fits fits_new same =
    ext_get_or 0 _ _ (length-between new a b fits_new ∙ sym (length-between old a b fits))
    (λ i h.
    let within : i < b - a = rw (← length-between new a b fits_new) h in
    get_or-between new a b i 0 (omega (arith, within))
    ∙ same (a + i) (omega arith) (omega (arith, within))
    ∙ sym (get_or-between old a b i 0 (omega (arith, within))))

-- bytes that a torn write leaves alone
torn_outside : (at n : ℕ) (old new : List ℕ) → IsTorn at n old new → (a b : ℕ) → a ≤ b → b ≤ length old
    → (b ≤ at) ⊎ (at + n ≤ a) → slice_range new a b ≡ slice_range old a b
torn_outside at n old new torn a b order fits outside =
    same_between old new a b order fits (omega (arith, fits, torn.no_shorter)) (same outside)
  where
    same : (b ≤ at) ⊎ (at + n ≤ a) → (i : ℕ) → a ≤ i → i < b → get_or new i 0 ≡ get_or old i 0
    same (inl left) i low high = torn.before i (omega (arith, fits, high)) (omega (arith, left, high))
    same (inr right) i low high = torn.behind i (omega (arith, fits, high)) (omega (arith, right, low))

-- a write within the device, not synced
pub spread_changes : (size at n : ℕ) (old new : List ℕ) → at + n ≤ size → IsSpread size at n old new → ChangesOnly at n old new
spread_changes size at n old new within spread = record {
  size = spread.within within;
  outside = torn_outside at n old new spread.torn;
}

-- a refused write within the device
pub torn_changes : (at n : ℕ) (old new : List ℕ) → at + n ≤ length old → IsTorn at n old new → ChangesOnly at n old new
torn_changes at n old new within torn = record {
  size = omega (arith, within, torn.no_shorter, torn.no_longer);
  outside = torn_outside at n old new torn;
}

-- a write within the device that was carried out
pub written_changes : (at : ℕ) (bytes old new : List ℕ) → at + length bytes ≤ length old → new ≡ overwritten old at bytes
    → ChangesOnly at (length bytes) old new
written_changes at bytes old new within is = torn_changes at (length bytes) old new within (rw is (overwritten_torn old bytes at))

-- and has its bytes
pub written_range : (at : ℕ) (bytes old new : List ℕ) → new ≡ overwritten old at bytes
    → slice_range new at (at + length bytes) ≡ bytes
written_range at bytes old new is =
    let size = length_resized old at in
    let less : at + length bytes - at ≡ length bytes = omega arith in
    let rest = drop (at + length bytes) old in
    let tail : drop at ((resized old at ++ bytes) ++ rest) ≡ bytes ++ rest =
    rw (append_assoc (resized old at) bytes rest) (rw size at (drop-append_seam (resized old at) (bytes ++ rest))) in
    rw (is, tail, less) (take-append-le (length bytes) bytes rest (omega arith) ∙ take_all (length bytes) bytes (omega arith))

-- a length that was set, no less than n
pub cut_front : (len n : ℕ) (old new : List ℕ) → n ≤ len → n ≤ length old → IsCut len old new → KeepsFront n old new
cut_front len n old new less fits cut =
    let long = by cut.size in
    record {
      long = long;
      front = λ a b order below.
          same_between old new a b order (omega (arith, fits, below)) (omega (arith, long, below))
          (λ i low high. cut.front i (omega (arith, fits, below, high)) (omega (arith, long, below, high)) (omega (arith, less, below, high)));
    }
  where
    by : (length new ≡ length old) ⊎ (length new ≡ len) → n ≤ length new
    by (inl same) = omega (arith, fits, same)
    by (inr set) = omega (arith, less, set)

-- a write within the device, whether the device took it or refused it
pub call_changes : {E : Type 0} {H : Type 0} (result : Result (Unit {0}) E) (at : ℕ) (bytes old new : List ℕ)
    → OnOk result (H → new ≡ overwritten old at bytes) → OnErr result (H → IsTorn at (length bytes) old new) → H
    → at + length bytes ≤ length old → ChangesOnly at (length bytes) old new
call_changes (Ok done) at bytes old new a b h within = written_changes at bytes old new within (a h)
call_changes (Err e) at bytes old new a b h within = torn_changes at (length bytes) old new within (b h)

pub call_range : {E : Type 0} (H : Type 0) (result : Result (Unit {0}) E) (at : ℕ) (bytes old new : List ℕ)
    → OnOk result (H → new ≡ overwritten old at bytes) → OnOk result (H → slice_range new at (at + length bytes) ≡ bytes)
call_range H (Ok done) at bytes old new a = λ h. written_range at bytes old new (a h)
call_range H (Err e) at bytes old new a = a

-- a change in a part of a range, behind changes in the beginning of it
pub changes_more : (at n from m size : ℕ) (x y z : List ℕ) → ChangesOnly at n x y → ChangesOnly from m y z → at ≤ from
    → n ≤ size → from + m ≤ at + size → ChangesOnly at size x z
changes_more at n from m size x y z first second order less within = record {
  size = second.size ∙ first.size;
  outside = λ a b low fits aside.
      second.outside a b low (omega (arith, fits, first.size)) (later a b aside) ∙ first.outside a b low fits (before a b aside);
}
  where
    later : (a b : ℕ) → (b ≤ at) ⊎ (at + size ≤ a) → (b ≤ from) ⊎ (from + m ≤ a)
    later a b (inl left) = inl (omega (arith, left, order))
    later a b (inr right) = inr (omega (arith, right, within))

    before : (a b : ℕ) → (b ≤ at) ⊎ (at + size ≤ a) → (b ≤ at) ⊎ (at + n ≤ a)
    before a b (inl left) = inl left
    before a b (inr right) = inr (omega (arith, right, less))

pub changes_same : (at n : ℕ) (x y : List ℕ) → y ≡ x → ChangesOnly at n x y
changes_same at n x y is = record {
  size = ap (λ (l : List ℕ). length l) is;
  outside = λ a b low fits aside. ap (λ (l : List ℕ). slice_range l a b) is;
}

pub changes_none : (at : ℕ) (x : List ℕ) → ChangesOnly at 0 x x
changes_none at x = record { size = refl; outside = λ a b low fits aside. refl }

-- by the offset and the length that the call was given
pub range_changes : {E : Type 0} {H : Type 0} (result : Result (Unit {0}) E) (at n from : ℕ) (bytes old new : List ℕ)
    → from ≡ at → length bytes ≡ n → OnOk result (H → new ≡ overwritten old from bytes)
    → OnErr result (H → IsTorn from (length bytes) old new) → H → at + n ≤ length old → ChangesOnly at n old new
range_changes result at n from bytes old new e f a b h within =
    subst (λ (k : ℕ). ChangesOnly k n old new) e
    (subst (λ (k : ℕ). ChangesOnly from k old new) f (call_changes result from bytes old new a b h (omega (arith, e, f, within))))
