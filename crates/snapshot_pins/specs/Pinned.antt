-- What readers found, and the pins that they hold. Our own choice.
use Rattle.std.specs.Prelude.{◌≡◌, ℕ, ◌<◌, if◌then◌else◌, Some}
use Rattle.std.specs.Ordering.{nat_cmp}
use Rattle.std.specs.FinMap.{FinMap, get, contains_key, insert}
use Rattle.pool.specs.Versions.{Versions}
use Rattle.snapshot_pins.specs.declared.readers.Readers.{Readers}
use Rattle.snapshot_pins.specs.Listed.{numbers_in, count_at}

-- the commit that each reader found
abbrev pub numbers_of : Readers → FinMap nat_cmp ℕ
numbers_of readers = numbers_in readers.list

-- with a reader that begins at a commit, unless it has begun
abbrev pub with_reader : FinMap nat_cmp ℕ → ℕ → ℕ → FinMap nat_cmp ℕ
with_reader numbers reader number = if contains_key numbers reader then numbers else insert numbers reader number

-- each commit has a pin for each reader that found it, and no other
abbrev pub ArePinned : Readers → (ℕ → ℕ) → Type 0
ArePinned readers pins = (c : ℕ) → pins c ≡ count_at readers.list c

-- the last commit and what these readers found are as they were
pub record KeepsFound (numbers : FinMap nat_cmp ℕ) (old new : Versions) : Type 0 where
  pub last : new.last ≡ old.last
  pub newest : new.pages old.last ≡ old.pages old.last
  pub found : (reader number : ℕ) → get numbers reader ≡ Some number → new.pages number ≡ old.pages number

-- a commit that a reader found is pinned
abbrev pub FoundIsPinned : Type 0
FoundIsPinned = (readers : Readers) (pins : ℕ → ℕ) (reader number : ℕ) → ArePinned readers pins
    → get (numbers_of readers) reader ≡ Some number → 0 < pins number
