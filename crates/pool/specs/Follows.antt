-- What may be committed over a version. Our own choice.
use Rattle.std.specs.Prelude.{◌≡◌, ℕ, ◌-◌, ◌<◌, ◌≤◌, ◌^◌, List, Some, IsSome}
use Rattle.journal.specs.Versions.{HasPage, IsWithin}
use Rattle.pool.specs.Pages.{PageMap, over}
use Rattle.pool.specs.Zeros.{EndsInZeros}

-- Pages that may be committed: each page below one of them is there then, and behind the header of
-- page 0 there are zeros.
pub record MayFollow (top pages : PageMap) : Type 0 where
  pub gapless : (n m : ℕ) → n < m → IsSome (top m) → IsSome (over top pages n)
  pub low : (n : ℕ) → IsSome (top n) → n < 2 ^ 32 - 1
  pub zeros : (page : List ℕ) → top 0 ≡ Some page → EndsInZeros page

-- With the pages of a set over `count` pages there are `new`: each page of the set is below, and
-- each new one is in the set.
pub record IsCovered (count : ℕ) (set : List (ℕ × List ℕ)) (new : ℕ) : Type 0 where
  pub grows : count ≤ new
  pub within : IsWithin set new
  pub covered : (n : ℕ) → count ≤ n → n < new → HasPage n set

-- behind the header of page 0, where the set has it, there are zeros
abbrev pub HasZeros : PageMap → Type 0
HasZeros top = (page : List ℕ) → top 0 ≡ Some page → EndsInZeros page
