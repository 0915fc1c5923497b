-- The list of a journal: a block of 1,024 numbers of four bytes, those of its pages, strictly
-- rising, and then 2^32 - 1 to the end. Our own choice.
use Rattle.std.specs.Prelude.{◌≡◌, ℕ, suc, ◌*◌, ◌<◌, ◌≤◌, List, [], length, get_or}
use Rattle.pagefile.specs.Number.{number_at}

-- the number and the bytes of the i-th page of a set
abbrev pub number_in : List (ℕ × List ℕ) → ℕ → ℕ
number_in set i = (get_or set i (0, [])).0

abbrev pub image_in : List (ℕ × List ℕ) → ℕ → List ℕ
image_in set i = (get_or set i (0, [])).1

-- the i-th number of a list
abbrev pub listed : List ℕ → ℕ → ℕ
listed list i = number_at list (4 * i)

-- the list has the numbers of these pages
pub record HasNumbers (list : List ℕ) (set : List (ℕ × List ℕ)) : Type 0 where
  pub few : length set ≤ 1024
  pub each : (i : ℕ) → i < length set → listed list i ≡ number_in set i
  pub rest : (i : ℕ) → length set ≤ i → i < 1024 → listed list i ≡ 4294967295

-- the pages stand in the order of their numbers, each once
abbrev pub IsRising : List (ℕ × List ℕ) → Type 0
IsRising set = (i : ℕ) → suc i < length set → number_in set i < number_in set (suc i)

-- the block is the list of so many pages, each with a number below this one
pub record IsList (list : List ℕ) (below size : ℕ) : Type 0 where
  pub few : size ≤ 1024
  pub low : (i : ℕ) → i < size → listed list i < below
  pub rising : (i : ℕ) → suc i < size → listed list i < listed list (suc i)
  pub rest : (i : ℕ) → size ≤ i → i < 1024 → listed list i ≡ 4294967295

-- so many numbers stand at the front of the block, each below this one and strictly rising, and
-- none right behind them
pub record IsFront (list : List ℕ) (below size : ℕ) : Type 0 where
  pub few : size ≤ 1024
  pub low : (i : ℕ) → i < size → listed list i < below
  pub rising : (i : ℕ) → suc i < size → listed list i < listed list (suc i)
  pub ended : size < 1024 → listed list size ≡ 4294967295
