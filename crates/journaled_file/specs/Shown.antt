-- What a file with a journal shows between two calls. Our own choice.
use Rattle.std.specs.Prelude.{◌≡◌, ℕ, zero, suc, ◌*◌, ◌<◌, ◌≤◌, List, [], ◌∷◌, ◌++◌, drop, length, replicate, Bool, IsTrue}
use Rattle.disk.specs.Crashes.{Bytes, Always}
use Rattle.pagefile.specs.Parts.{gate_part}
use Rattle.journal.specs.Lists.{IsRising}
use Rattle.journal.specs.Parts.{place}
use Rattle.journal.specs.Versions.{Version, IsWithin, InPlaces, IsReady, IsOpen, IsShut, laid}

-- a page of which a version keeps these bytes: behind the header of page 0 there are zeros
abbrev pub padded : ℕ → List ℕ → List ℕ
padded zero part = part ++ replicate 4076 0
padded (suc n) part = part

-- the version of so many pages that a file has in its places
abbrev pub placed : ℕ → Bytes → Version
placed count file = record { set = []; count = count; pages = place file }

-- The gate is shut: the pages of a version stand in their places.
pub record IsAtRest (honest durable : Bool) (count : ℕ) (file : Bytes) (outcomes : Bytes → Type 0) (v : Version) : Type 0 where
  pub many : v.count ≡ count
  pub some : 1 ≤ count
  pub room : IsTrue honest → 4096 * count ≤ length file
  pub pages : IsTrue honest → (n : ℕ) → n < count → place file n ≡ v.pages n
  pub gate : IsTrue honest → gate_part file ≡ 0 ∷ []
  pub shut : IsTrue durable → IsTrue honest → Always outcomes (IsShut v)

-- The gate is open: `images` are the pages of the last commit, and the first `written` of them
-- stand in their places.
pub record IsJournaled (honest durable : Bool) (images : List (ℕ × List ℕ)) (written count : ℕ) (file : Bytes)
    (outcomes : Bytes → Type 0) (v : Version) : Type 0 where
  pub set : v.set ≡ images
  pub many : v.count ≡ count
  pub some : 1 ≤ count
  pub rising : IsRising images
  pub within : IsWithin images count
  pub room : IsTrue honest → 4096 * count ≤ length file
  pub pages : IsTrue honest → (n : ℕ) → n < count → laid (drop written images) (place file) n ≡ v.pages n
  pub opened : IsTrue durable → IsTrue honest → Always outcomes (IsOpen v)

-- The journal is whole, and laid over the places it gives the version; where the gate is not open,
-- the places have the version too.
pub record IsUnshut (v : Version) (c : Bytes) : Type 0 where
  pub ready : IsReady v c
  pub places : (gate_part c ≡ 1 ∷ [] → ⊥) → InPlaces v c

-- The gate is to be shut, and may hold anything: the pages of a version stand in their places, and
-- its journal is whole.
pub record IsShutting (honest durable : Bool) (count : ℕ) (file : Bytes) (outcomes : Bytes → Type 0) (v : Version) : Type 0 where
  pub many : v.count ≡ count
  pub some : 1 ≤ count
  pub room : IsTrue honest → 4096 * count ≤ length file
  pub pages : IsTrue honest → (n : ℕ) → n < count → place file n ≡ v.pages n
  pub unshut : IsTrue durable → IsTrue honest → Always outcomes (IsUnshut v)
