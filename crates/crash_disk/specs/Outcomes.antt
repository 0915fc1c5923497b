-- What a crash may leave of a device in memory that keeps what it might have left: an outcome for
-- each of its calls that changed that, so that these are functions of its fields.
use Rattle.std.specs.Prelude.{◌≡◌, ◌⊎◌, Bool, true, false, nat_eq, nat_lt, if◌then◌else◌, ℕ, zero, suc, ◌<◌, ◌≤◌, List, [], ◌∷◌, ◌++◌, length, drop, slice_index}
use Rattle.std.proofs.Common.{arith}
use mathlib.Core.Logic.{inl, inr}
use Rattle.disk.specs.Crashes.{Bytes}
use Rattle.crash_disk.specs.declared.outcome.Outcome.{Outcome}

-- the place is in this range
abbrev pub IsWithin : ℕ → ℕ → ℕ → Type 0
IsWithin from to i = (from ≤ i) × (i < to)

-- whether the place is in one of these ranges
abbrev pub in_range : List (ℕ × ℕ) → ℕ → Bool
in_range [] i = false
in_range (r ∷ rs) i = if nat_lt i r.0 then in_range rs i else (if nat_lt i r.1 then true else in_range rs i)

-- the place is in one of these ranges
abbrev pub InRange : List (ℕ × ℕ) → ℕ → Type 0
InRange rs i = in_range rs i ≡ true

-- whether this is one of these lengths
abbrev pub has_length : List ℕ → ℕ → Bool
has_length [] n = false
has_length (m ∷ ms) n = if nat_eq n m then true else has_length ms n

-- the length that was synced, or one that it was to have since
abbrev pub IsSized : Outcome → ℕ → Type 0
IsSized o n = has_length (length o.synced.items ∷ o.lengths.items) n ≡ true

-- what a crash may leave by this outcome: outside its ranges, what was synced
pub record IsLeft (o : Outcome) (c : Bytes) : Type 0 where
  pub size : IsSized o (length c)
  pub kept : (i : ℕ) → i < length o.synced.items → i < length c → (InRange o.ranges.items i → ⊥)
      → slice_index c i ≡ slice_index o.synced.items i

-- the byte a5 in each range of this outcome, and behind the bytes that were synced
pub record IsFilled (o : Outcome) (c : Bytes) : Type 0 where
  pub ranges : (i : ℕ) → i < length c → InRange o.ranges.items i → slice_index c i ≡ 165
  pub behind : (i : ℕ) → i < length c → length o.synced.items ≤ i → slice_index c i ≡ 165

-- A crash may leave what a read gives. What was synced behind the end of that lies in a range: a
-- write past the end after a cut puts zeros there.
pub record Agrees (o : Outcome) (file : Bytes) : Type 0 where
  pub left : IsLeft o file
  pub past : (i : ℕ) → i < length o.synced.items → length file ≤ i → InRange o.ranges.items i

-- a crash might have left this by one of these outcomes
abbrev pub HadOne : List Outcome → Bytes → Type 0
HadOne [] c = ⊥
HadOne (o ∷ os) c = IsLeft o c ⊎ HadOne os c

-- the latest outcome
abbrev pub newest : Outcome → List Outcome → Outcome
newest o [] = o
newest o (p ∷ ps) = newest p ps

-- an outcome more, which has a range and a length more than the latest
pub record Adds (first : Outcome) (old new : List Outcome) (range : ℕ × ℕ) (len : ℕ) : Type 0 where
  pub next : Outcome
  pub is : new ≡ old ++ next ∷ []
  pub synced : next.synced.items ≡ (newest first old).synced.items
  pub ranges : next.ranges.items ≡ (newest first old).ranges.items ++ range ∷ []
  pub lengths : next.lengths.items ≡ (newest first old).lengths.items ++ len ∷ []

-- an outcome more, which is these bytes alone
pub record AddsSynced (old new : List Outcome) (bytes : Bytes) : Type 0 where
  pub next : Outcome
  pub is : new ≡ old ++ next ∷ []
  pub synced : next.synced.items ≡ bytes
  pub ranges : next.ranges.items ≡ []
  pub lengths : next.lengths.items ≡ []

-- what a crash may leave by the latest outcome, it might have left since each earlier one
pub had_newest : (o : Outcome) (ps : List Outcome) (t : ℕ) (c : Bytes) → t ≤ length ps → IsLeft (newest o ps) c
    → HadOne (drop t (o ∷ ps)) c
had_newest o [] zero c le is = inl is
had_newest o [] (suc t) c le is = absurd (omega (arith, le))
had_newest o (p ∷ ps) zero c le is = inr (had_newest p ps zero c (omega arith) is)
had_newest o (p ∷ ps) (suc t) c le is = had_newest p ps t c (omega (arith, le)) is

-- and since the latest one nothing else
pub only_newest : (o : Outcome) (ps : List Outcome) (c : Bytes) → HadOne (drop (length ps) (o ∷ ps)) c
    → IsLeft (newest o ps) c
only_newest o [] c (inl is) = is
only_newest o [] c (inr none) = absurd none
only_newest o (p ∷ ps) c had = only_newest p ps c had
