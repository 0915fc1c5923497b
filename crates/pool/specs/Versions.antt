-- What a pool shows: versions of pages by the numbers of commits.
use Rattle.std.specs.Prelude.{◌≡◌, ◌⊎◌, ℕ, ◌+◌, ◌<◌, ◌==◌, Bool, List, sum_by}
use Rattle.std.specs.List.{list_any}
use Rattle.std.specs.Option.{is_some}
use Rattle.disk.specs.declared.DiskError.{DiskError}
use Rattle.disk.specs.declared.device.Disk.{Ghosts}
use Rattle.journal.specs.Versions.{Version}
use Rattle.last_version.specs.Lasts as last
use Rattle.pool.specs.declared.error.PoolError.{PoolError}
use Rattle.pool.specs.declared.pool.Pool.{Pool}
use Rattle.pool.specs.Pages.{PageMap, known}
use Rattle.pool.specs.Images.{images_in, needs, pinned_in}
use Rattle.pool.specs.Pins.{pins_at}
use Rattle.pool.specs.Ready.{Ascend}
use Rattle.pool.specs.Refused.{IsBrokenFor}
use Rattle.pool.specs.Slots.{pages_at}

pub record Versions : Type 0 where
  -- the number of the last commit
  pub last : ℕ
  -- the pages at a commit that is the last or pinned; of others it says nothing
  pub pages : ℕ → PageMap
  -- how often a commit is pinned
  pub pins : ℕ → ℕ

-- a commit whose pages are kept: the last, or one that is pinned
abbrev pub IsKept : Versions → ℕ → Type 0
IsKept v c = (c ≡ v.last) ⊎ (0 < v.pins c)

-- what a pool shows; no pages over a device that is not honest
abbrev pub versions_of : {D : Type 0} {device : Ghosts D} → Pool D device → Versions
versions_of {D} {device} pool = record {
  last = pool.last;
  pages = λ c. known device.is_honest (pages_at (last.shown_by pool.file) pool.slots c);
  pins = pins_at pool.pins;
}

-- the device under it
abbrev pub device_of : {D : Type 0} {device : Ghosts D} → Pool D device → D
device_of pool = last.device_under pool.file

-- how many calls were refused, those among them that were answered since a commit was refused
abbrev pub refused_of : {D : Type 0} {device : Ghosts D} → Pool D device → ℕ
refused_of pool = last.refused_of pool.file

-- the version of the last commit, as its journal has it
abbrev pub version_of : {D : Type 0} {device : Ghosts D} → Pool D device → Version
version_of pool = last.version_under pool.file

-- how many pages the last commit has
abbrev pub count_of : {D : Type 0} {device : Ghosts D} → Pool D device → ℕ
count_of pool = last.count_of pool.file

-- whether a commit was refused for the device: then each call is
abbrev pub is_broken : {D : Type 0} {device : Ghosts D} → Pool D device → Bool
is_broken pool = last.is_broken pool.file

-- a refusal for the device broke it
abbrev pub BreaksFor : {D : Type 0} {device : Ghosts D} → Pool D device → PoolError → Type 0
BreaksFor pool = IsBrokenFor (last.IsBrokenBy pool.file)

-- for this cause the device refused its last refused call, or a commit was refused
abbrev pub Tells : {D : Type 0} {device : Ghosts D} → Pool D device → DiskError → Type 0
Tells pool = last.Tells pool.file

-- no page is to be written, and the file has the last version in its places
abbrev pub is_at_rest : {D : Type 0} {device : Ghosts D} → Pool D device → Bool
is_at_rest pool = last.is_at_rest pool.file

-- 1 where the page of this number was committed and is not written yet, 0 where it is none of these
abbrev pub unwritten_at : {D : Type 0} {device : Ghosts D} → Pool D device → ℕ → ℕ
unwritten_at pool = last.waits_at pool.file

-- how many pages were committed and are not written yet
abbrev pub unwritten_of : {D : Type 0} {device : Ghosts D} → Pool D device → ℕ
unwritten_of pool = last.left_of pool.file

-- how many pages it may keep in memory that the file has too
abbrev pub frames_of : {D : Type 0} {device : Ghosts D} → Pool D device → ℕ
frames_of pool = last.room_of pool.file

-- how many old images it keeps: of pages as they were before a commit
abbrev pub images_of : {D : Type 0} {device : Ghosts D} → Pool D device → ℕ
images_of pool = images_in pool.slots

-- how many old images more a commit of these pages would need
abbrev pub needed_in : {D : Type 0} {device : Ghosts D} → Pool D device → List ℕ → ℕ
needed_in pool numbers = sum_by (needs (count_of pool) (pinned_in pool.pins) pool.slots) numbers

-- with the images that a commit of these pages would need, the pinned commits need more than 4,096
pub record NeedsImages {D : Type 0} {device : Ghosts D} (pool : Pool D device) (pages : PageMap) : Type 0 where
  -- the numbers of the pages
  pub numbers : List ℕ
  pub ascend : Ascend numbers
  pub each : (n : ℕ) → list_any (λ k. k == n) numbers ≡ is_some (pages n)
  pub more : 4096 < images_of pool + needed_in pool numbers

-- it keeps as many old images, a commit would need as many more, and as many pages may be in memory
pub record HoldsSame {D : Type 0} {device : Ghosts D} (old new : Pool D device) : Type 0 where
  pub images : images_of new ≡ images_of old
  pub needed : (numbers : List ℕ) → needed_in new numbers ≡ needed_in old numbers
  pub frames : frames_of new ≡ frames_of old
