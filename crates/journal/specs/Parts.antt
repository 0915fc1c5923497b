-- Where a file with a journal keeps what, as ranges of its bytes. A version keeps of page 0 its
-- header alone: behind it stand the journal's first block and the gate. Our own choice.
use Rattle.std.specs.Prelude.{◌≡◌, ◌⊎◌, ℕ, zero, suc, ◌+◌, ◌*◌, ◌≤◌, List, length, take, slice_range, Option}
use Rattle.std.specs.Option.{option_map}
use Rattle.pagefile.specs.Header.{header_size}
use Rattle.pagefile.specs.Pages.{page_of}

-- how many bytes of page n a version keeps
abbrev pub kept_size : ℕ → ℕ
kept_size zero = header_size
kept_size (suc n) = 4096

-- what a version keeps of page n
abbrev pub shown : ℕ → List ℕ → List ℕ
shown n page = take (kept_size n) page

-- what a file shows of page n, where it has all of it
abbrev pub shown_of : List ℕ → ℕ → Option (List ℕ)
shown_of file n = option_map (shown n) (page_of file n)

-- what a version keeps of page n, as it stands in its place in a file
abbrev pub place : List ℕ → ℕ → List ℕ
place file n = slice_range file (4096 * n) (4096 * n + kept_size n)

-- the n-th block of a file: 4,096 bytes, as a page
abbrev pub block : List ℕ → ℕ → List ℕ
block file n = slice_range file (4096 * n) (4096 * n + 4096)

-- so many bytes
abbrev pub HasLength : ℕ → List ℕ → Type 0
HasLength n file = length file ≡ n

-- The same bytes but for n of them from an offset on, which may be any; and the same length.
pub record ChangesOnly (at n : ℕ) (old new : List ℕ) : Type 0 where
  pub size : length new ≡ length old
  pub outside : (a b : ℕ) → a ≤ b → b ≤ length old → (b ≤ at) ⊎ (at + n ≤ a) → slice_range new a b ≡ slice_range old a b

-- the same bytes below n, in a file that is no shorter than that
pub record KeepsFront (n : ℕ) (old new : List ℕ) : Type 0 where
  pub long : n ≤ length new
  pub front : (a b : ℕ) → a ≤ b → b ≤ n → slice_range new a b ≡ slice_range old a b
