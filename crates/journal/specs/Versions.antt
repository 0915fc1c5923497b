-- What a file with a journal stands for. Byte 24 is the gate: where it is 1, the journal's pages
-- stand for those in their places. Bytes 20 to 23 name the journal's first block, J: block J is the
-- list, and the blocks behind it are the images of the pages, in the order of the list.
use Rattle.std.specs.Prelude.{◌≡◌, ◌⊎◌, ℕ, ◌+◌, ◌*◌, ◌%◌, ◌^◌, ◌<◌, ◌≤◌, ◌==◌, List, [], ◌∷◌, length, Bool, true, false, if◌then◌else◌}
use Rattle.pagefile.specs.Parts.{gate_part, start_part}
use Rattle.byteorder.specs.Endian.{big_bytes}
use Rattle.disk.specs.Crashes.{Bytes, Always}
use Rattle.journal.specs.Parts.{place, shown, block}
use Rattle.journal.specs.Lists.{image_in, HasNumbers, IsRising}

-- what pages show, with one page in place of that of its number
abbrev pub put : (ℕ → List ℕ) → ℕ → List ℕ → ℕ → List ℕ
put base number page n = if number == n then shown number page else base n

-- what pages show, with those of a set laid over them one after another
abbrev pub laid : List (ℕ × List ℕ) → (ℕ → List ℕ) → ℕ → List ℕ
laid [] base n = base n
laid (e ∷ es) base n = laid es (put base e.0 e.1) n

-- one of these pages has this number
abbrev pub HasPage : ℕ → List (ℕ × List ℕ) → Type 0
HasPage n [] = ⊥
HasPage n (e ∷ es) = (n ≡ e.0) ⊎ HasPage n es

-- a committed version: the pages that its commit changed, how many pages there are, and what they
-- show
pub record Version : Type 0 where
  pub set : List (ℕ × List ℕ)
  pub count : ℕ
  pub pages : ℕ → List ℕ

-- the changed pages are among its pages
abbrev pub IsWithin : List (ℕ × List ℕ) → ℕ → Type 0
IsWithin set count = (n : ℕ) → HasPage n set → n < count

-- the blocks from one on are the images of these pages
abbrev pub HasImages : Bytes → ℕ → List (ℕ × List ℕ) → Type 0
HasImages c first set = (i : ℕ) → i < length set → block c (first + i) ≡ image_in set i

-- A length: page 0 is there, so many blocks are, and it is a multiple of a block's.
pub record IsSized (blocks : ℕ) (c : Bytes) : Type 0 where
  pub some : 4096 ≤ length c
  pub long : 4096 * blocks ≤ length c
  pub even : length c % 4096 ≡ 0

-- the places have the version
pub record InPlaces (v : Version) (c : Bytes) : Type 0 where
  pub size : IsSized v.count c
  pub some : 1 ≤ v.count
  pub pages : (n : ℕ) → n < v.count → place c n ≡ v.pages n

-- whatever the gate: the journal is whole, and laid over the places it gives the version
pub record IsReady (v : Version) (c : Bytes) : Type 0 where
  pub size : IsSized (v.count + 1 + length v.set) c
  pub some : 1 ≤ v.count
  pub small : v.count < 2 ^ 32
  pub start : start_part c ≡ big_bytes 4 v.count
  pub list : HasNumbers (block c v.count) v.set
  pub rising : IsRising v.set
  pub images : HasImages c (v.count + 1) v.set
  pub within : IsWithin v.set v.count
  pub pages : (n : ℕ) → n < v.count → laid v.set (place c) n ≡ v.pages n

-- the gate is open, and the journal gives the version; its pages may be torn in their places
pub record IsOpen (v : Version) (c : Bytes) : Type 0 where
  pub gate : gate_part c ≡ 1 ∷ []
  pub ready : IsReady v c

-- the gate is shut, and the places have the version; the journal may hold anything
pub record IsShut (v : Version) (c : Bytes) : Type 0 where
  pub gate : gate_part c ≡ 0 ∷ []
  pub places : InPlaces v c

-- whatever the gate: the places have the one version, and the journal gives the other
pub record IsBoth (old new : Version) (c : Bytes) : Type 0 where
  pub places : InPlaces old c
  pub ready : IsReady new c

-- it is the one version or the other
abbrev pub OneOf : Version → Version → Version → Type 0
OneOf x y v = (v ≡ x) ⊎ (v ≡ y)

-- a file that stands for one of two versions
pub record IsAmong (x y : Version) (c : Bytes) : Type 0 where
  pub old : Version
  pub new : Version
  pub is_old : OneOf x y old
  pub is_new : OneOf x y new
  pub state : IsOpen new c ⊎ (IsShut old c ⊎ IsBoth old new c)

-- A file stands for a version: by its journal where the gate is open, else by its places.
abbrev pub StandsFor : Version → Bytes → Type 0
StandsFor v c =
    (gate_part c ≡ 1 ∷ []) × IsReady v c ⊎ (gate_part c ≡ 1 ∷ [] → ⊥) × InPlaces v c

-- the version that a commit of these pages makes, where the file has so many pages then
abbrev pub committed : Version → List (ℕ × List ℕ) → ℕ → Version
committed v set count = record { set = set; count = count; pages = laid set v.pages }

-- What may be committed over a version: at most 1,024 pages of 4,096 bytes, in the order of their
-- numbers, each below the new count of pages; each page that was not there is among them.
pub record IsCommittable (v : Version) (set : List (ℕ × List ℕ)) (count : ℕ) : Type 0 where
  pub some : 1 ≤ count
  pub grows : v.count ≤ count
  pub within : IsWithin set count
  pub rising : IsRising set
  pub covered : (n : ℕ) → v.count ≤ n → n < count → HasPage n set

-- where a file stands between two commits: its gate may be open, and these are the pages of the
-- last commit; or it is shut
abbrev pub IsAt : Bool → List (ℕ × List ℕ) → Version → (Bytes → Type 0) → Type 0
IsAt true images v outcomes = (v.set ≡ images) × Always outcomes (IsOpen v)
IsAt false images v outcomes = Always outcomes (IsShut v)
