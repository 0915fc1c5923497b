-- What a page has before a commit replaces it, and what was found of a page.
use Rattle.std.specs.Prelude.{◌≡◌, ◌⊎◌, ℕ, ◌+◌, ◌<◌, ◌==◌, true, false, List, [], ◌∷◌, ◌++◌, Option, Some, None, length, slice_index_or}
use Rattle.std.specs.List.{list_any}
use Rattle.sqlrecord.specs.Page.{IsNode}
use Rattle.pool.specs.declared.pins.Pin.{Pin}
use Rattle.pool.specs.declared.found.Found.{Found}
use Rattle.pool.specs.declared.found.Found.TheVariants.{Copied, Newest, Absent}
use Rattle.pool.specs.declared.slot.OldImage.{OldImage}
use Rattle.pool.specs.Pins.{pins_at}
use Rattle.pool.specs.Images.{covers, reads_newest}
use Rattle.pool.specs.Slots.{seen}

-- what was found of a page, whatever its newest version is: the bytes of an old image, and whether
-- they are known to be a sound page of a tree; that the newest version is read; or that there was no
-- page
abbrev pub IsFound : (Option (List ℕ) → Option (List ℕ)) → List ℕ → Found → Type 0
IsFound shown bytes (Copied known) = ((newest : Option (List ℕ)) → shown newest ≡ Some bytes) × (known ≡ true → IsNode bytes)
IsFound shown bytes Newest = (newest : Option (List ℕ)) → shown newest ≡ newest
IsFound shown bytes Absent = (newest : Option (List ℕ)) → shown newest ≡ None

-- one image more, until the next commit, of a page that a pinned commit reads; each that reads it
-- has the page in its list
pub record IsImaged (last : ℕ) (pinned : List ℕ) (touched : List (List ℕ)) (n : ℕ) (old new : List OldImage) : Type 0 where
  pub image : OldImage
  pub until : image.until ≡ last + 1
  pub is : new ≡ old ++ image ∷ []
  pub wanted : reads_newest pinned old ≡ true
  pub noted : (k : ℕ) → k < length pinned → covers (slice_index_or pinned k 0) old ≡ false
      → list_any (λ m. m == n) (slice_index_or touched k []) ≡ true

-- a page of a set: an image was kept of it, or no pinned commit reads it
abbrev pub IsReadied : ℕ → List ℕ → List (List ℕ) → ℕ → List OldImage → List OldImage → Type 0
IsReadied last pinned touched n old new = ((new ≡ old) × (reads_newest pinned old ≡ false))
    ⊎ IsImaged last pinned touched n old new

-- the images of a page are as before, or it is one of the first m of these numbers and has one more
abbrev pub MayBeImaged : List ℕ → ℕ → ℕ → List ℕ → List (List ℕ) → ℕ → List OldImage → List OldImage → Type 0
MayBeImaged numbers m last pinned touched n old new =
    (new ≡ old) ⊎ ((k : ℕ) × (k < m) × (slice_index_or numbers k 0 ≡ n) × IsImaged last pinned touched n old new)

-- a number that a list had it still has
abbrev pub Grows : List (List ℕ) → List (List ℕ) → Type 0
Grows old new = (k m : ℕ) → list_any (λ i. i == m) (slice_index_or old k []) ≡ true
    → list_any (λ i. i == m) (slice_index_or new k []) ≡ true

-- each number of a list is above those before it
abbrev pub Ascend : List ℕ → Type 0
Ascend numbers = (i j : ℕ) → i < j → j < length numbers → slice_index_or numbers i 0 < slice_index_or numbers j 0

-- the pinned commits read the same through the new images as through the old ones
abbrev pub KeepsSeen : List Pin → List OldImage → List OldImage → Type 0
KeepsSeen pins old new = (c : ℕ) → 0 < pins_at pins c → (d : Option (List ℕ)) → seen c new d ≡ seen c old d
