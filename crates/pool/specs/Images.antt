-- Which commits read old images of pages, and how many images there are.
use Rattle.std.specs.Prelude.{◌≡◌, ◌<◌, ◌≤◌, ℕ, nat_lt, Bool, true, false, not, ◌&&◌, ◌==◌, List, [], length, take, map, None, if◌then◌else◌, slice_index_or, sum_by, count_by}
use Rattle.std.specs.List.{list_any}
use Rattle.std.specs.Option.{is_some}
use Rattle.pool.specs.declared.pins.Pin.{Pin}
use Rattle.pool.specs.declared.slot.OldImage.{OldImage}
use Rattle.pool.specs.declared.slot.Slot.{Slot}
use Rattle.pool.specs.Slots.{slot_at}

-- the commit c reads one of these images: one of them is from before a later commit
abbrev pub covers : ℕ → List OldImage → Bool
covers c images = list_any (λ o. nat_lt c o.until) images

-- one of these commits reads the newest version of a page that has these images
abbrev pub reads_newest : List ℕ → List OldImage → Bool
reads_newest pinned images = list_any (λ c. not (covers c images)) pinned

abbrev pub no_image : OldImage
no_image = record { until = 0; page = None }

-- the commit c reads the image at place i: it is the first from before a later commit
abbrev pub reads : List OldImage → ℕ → ℕ → Bool
reads images i c = nat_lt c (slice_index_or images i no_image).until && not (covers c (take i images))

-- each image is read by one of these commits
abbrev pub AreNeeded : List ℕ → List OldImage → Type 0
AreNeeded pinned images = (i : ℕ) → i < length images → list_any (reads images i) pinned ≡ true

-- how many images have bytes: that of a page that was not there has none
abbrev pub with_bytes : List OldImage → ℕ
with_bytes images = count_by (λ o. is_some o.page) images

abbrev pub images_in : List Slot → ℕ
images_in slots = sum_by (λ s. with_bytes s.images) slots

-- 1 where one of so many pages is replaced by a commit and one of the pinned commits reads its
-- newest version, so that an image has to be kept; 0 where none does, or there is no page
abbrev pub needs : ℕ → List ℕ → List Slot → ℕ → ℕ
needs count pinned slots n = if nat_lt n count && reads_newest pinned (slot_at slots n).images then 1 else 0

-- the numbers of the pinned commits
abbrev pub pinned_in : List Pin → List ℕ
pinned_in pins = map (λ pin. pin.number) pins

-- What holds of the old images: each ends at a commit that was made, and each is read by a pinned
-- commit, which has the page in its list.
pub record AreKept (last : ℕ) (pinned : List ℕ) (touched : List (List ℕ)) (slots : List Slot) : Type 0 where
  pub before : list_any (λ c. nat_lt last c) pinned ≡ false
  pub room : length pinned ≤ length touched
  pub old : (n : ℕ) → covers last (slot_at slots n).images ≡ false
  pub needed : (n : ℕ) → AreNeeded pinned (slot_at slots n).images
  pub noted : (n k : ℕ) → k < length pinned → covers (slice_index_or pinned k 0) (slot_at slots n).images ≡ true
      → list_any (λ m. m == n) (slice_index_or touched k []) ≡ true
