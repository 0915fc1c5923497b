-- What a write that a crash may cut changes of a file, by its pages and by the parts of page 0.
-- Behind the header, which a version keeps, page 0 has four bytes that name a block and one byte
-- that is a gate: zeros in a file of format 1, which a journal writes.
use Rattle.std.specs.Prelude.{◌≡◌, ◌⊎◌, ℕ, ◌+◌, ◌*◌, ◌<◌, ◌≤◌, List, length, slice_range, IsSome}
use Rattle.pagefile.specs.Header.{header_size}
use Rattle.pagefile.specs.Pages.{page_of, KeepsOthers}

-- where the gate stands
abbrev pub gate_at : ℕ
gate_at = header_size + 4

-- the part of page 0 that a version keeps
abbrev pub versioned_part : List ℕ → List ℕ
versioned_part file = slice_range file 0 header_size

-- the part of page 0 that names the journal's first block
abbrev pub start_part : List ℕ → List ℕ
start_part file = slice_range file header_size gate_at

-- the gate
abbrev pub gate_part : List ℕ → List ℕ
gate_part file = slice_range file gate_at (gate_at + 1)

-- all pages but page 0 are as they were
abbrev pub KeepsPages : List ℕ → List ℕ → Type 0
KeepsPages old new = (m : ℕ) → 0 < m → IsSome (page_of old m) → page_of new m ≡ page_of old m

-- A write of page n to a file that reads as so many bytes: every other page stays, and a page that
-- lies within the file changes no length.
pub record IsSpreadPage (size n : ℕ) (old new : List ℕ) : Type 0 where
  pub others : KeepsOthers n old new
  pub within : 4096 * n + 4096 ≤ size → length new ≡ length old

-- A write of n bytes at an offset of page 0: every other page stays, and each part of the file
-- outside.
pub record IsSpreadPart (at n : ℕ) (old new : List ℕ) : Type 0 where
  pub pages : KeepsPages old new
  pub parts : (a b : ℕ) → a ≤ b → b ≤ length old → (b ≤ at) ⊎ (at + n ≤ a) → slice_range new a b ≡ slice_range old a b
  pub size : length new ≡ length old

-- A change of the length to k pages: the pages below that stay.
pub record IsCutTo (k : ℕ) (old new : List ℕ) : Type 0 where
  pub pages : (m : ℕ) → m < k → IsSome (page_of old m) → page_of new m ≡ page_of old m
  pub size : (length new ≡ length old) ⊎ (length new ≡ 4096 * k)

-- the gate alone is written
pub record IsSpreadGate (old new : List ℕ) : Type 0 where
  pub versioned : versioned_part new ≡ versioned_part old
  pub start : start_part new ≡ start_part old
  pub pages : KeepsPages old new
  pub size : length new ≡ length old

-- what names the journal's first block is written alone
pub record IsSpreadStart (old new : List ℕ) : Type 0 where
  pub versioned : versioned_part new ≡ versioned_part old
  pub gate : gate_part new ≡ gate_part old
  pub pages : KeepsPages old new
  pub size : length new ≡ length old

-- the part that a version keeps is written alone
pub record IsSpreadVersioned (old new : List ℕ) : Type 0 where
  pub start : start_part new ≡ start_part old
  pub gate : gate_part new ≡ gate_part old
  pub pages : KeepsPages old new
  pub size : length new ≡ length old
