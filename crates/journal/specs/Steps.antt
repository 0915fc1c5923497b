-- What calls of the journal leave of a file as a read gives it, whatever a crash may leave.
use Rattle.std.specs.Prelude.{◌≡◌, ℕ, ◌+◌, ◌*◌, ◌<◌, ◌≤◌, List, length}
use Rattle.journal.specs.Parts.{place}
use Rattle.journal.specs.Versions.{HasPage, laid}

-- the places of the first pages are as they were, in a file that is no shorter
pub record KeepsPlaces (count : ℕ) (old new : List ℕ) : Type 0 where
  pub no_shorter : length old ≤ length new
  pub places : (n : ℕ) → n < count → 4096 * n + 4096 ≤ length old → place new n ≡ place old n

-- the places of pages that are not in the set are as they were, in a file that is as long
pub record KeepsOtherPlaces (set : List (ℕ × List ℕ)) (old new : List ℕ) : Type 0 where
  pub size : length new ≡ length old
  pub places : (n : ℕ) → (HasPage n set → ⊥) → 4096 * n + 4096 ≤ length old → place new n ≡ place old n

-- the pages of the set stand in their places, and no other place has changed
pub record IsPut (set : List (ℕ × List ℕ)) (old new : List ℕ) : Type 0 where
  pub size : length new ≡ length old
  pub places : (n : ℕ) → 4096 * n + 4096 ≤ length old → place new n ≡ laid set (place old) n

-- each page of the set lies within the file
abbrev pub LiesWithin : List (ℕ × List ℕ) → List ℕ → Type 0
LiesWithin set file = (n : ℕ) → HasPage n set → 4096 * n + 4096 ≤ length file

-- each of these pages is one of those
abbrev pub AreAmong : List (ℕ × List ℕ) → List (ℕ × List ℕ) → Type 0
AreAmong some all = (n : ℕ) → HasPage n some → HasPage n all
