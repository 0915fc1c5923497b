-- What stands under the version of the last commit.
use Rattle.std.specs.Prelude.{◌≡◌, ℕ, ◌+◌, ◌*◌, ◌<◌, ◌≤◌, ◌==◌, nat_lt, nat_le, List, [], drop, length, Bool, Option, Some, None, if◌then◌else◌}
use Rattle.std.specs.List.{list_any}
use Rattle.disk.specs.declared.device.Disk.{Ghosts}
use Rattle.disk.specs.Crashes.{Bytes}
use Rattle.journal.specs.Parts.{place}
use Rattle.journal.specs.Versions.{Version, laid}
use Rattle.journaled_file.specs.Shown.{padded, IsAtRest, IsJournaled, IsShutting}
use Rattle.last_version.specs.declared.file.OpenFile.{OpenFile}
use Rattle.last_version.specs.declared.gate.Gate.{Gate}
use Rattle.last_version.specs.declared.gate.Gate.TheVariants.{Shut, Open}
use Rattle.last_version.specs.Gates.{answered_in}

-- the version that a file has by its places and by a set of pages, of which the first `written`
-- stand in their places
abbrev pub version_in : List (ℕ × List ℕ) → ℕ → ℕ → Bytes → Version
version_in set written count file = record { set = set; count = count; pages = laid (drop written set) (place file) }

-- so many pages, as a reader finds them
abbrev pub pages_below : ℕ → (ℕ → List ℕ) → ℕ → Option (List ℕ)
pages_below count pages n = if nat_lt n count then Some (padded n (pages n)) else None

-- a page as a reader finds it, where the file has all of it
abbrev pub padded_of : Bytes → ℕ → Option (List ℕ)
padded_of file n = if nat_le (4096 * n + 4096) (length file) then Some (padded n (place file n)) else None

-- 1 where one of these pages has this number, 0 where none has
abbrev pub waits_in : List (ℕ × List ℕ) → ℕ → ℕ
waits_in left n = if list_any (λ e. e.0 == n) left then 1 else 0

-- A file stands for a version: by its places where the gate is shut, and else by its journal, and
-- by those pages of the last commit that are still to be written. Where a commit was refused, the
-- places and these pages have it still.
pub record Stands (honest durable : Bool) (gate : Gate) (set : List (ℕ × List ℕ)) (written count : ℕ) (file : Bytes)
    (outcomes : Bytes → Type 0) (v : Version) : Type 0 where
  pub many : v.count ≡ count
  pub pages : (n : ℕ) → n < count → laid (drop written set) (place file) n ≡ v.pages n
  pub none : gate ≡ Shut → set ≡ []
  pub same_set : gate ≡ Open → v.set ≡ set
  pub rest : gate ≡ Shut → IsAtRest honest durable count file outcomes v
  pub journaled : gate ≡ Open → written < length set → IsJournaled honest durable set written count file outcomes v
  pub shutting : gate ≡ Open → length set ≤ written → IsShutting honest durable count file outcomes v

module _ {D : Type 0} {device : Ghosts D} where
  -- the file stands for a version
  abbrev pub StandsAs : OpenFile D device → Version → Type 0
  StandsAs file v =
      Stands device.is_honest device.is_durable file.gate file.set file.written file.count (device.bytes file.disk)
      (device.may_leave file.disk) v

  -- the version that it has
  abbrev pub version_of : OpenFile D device → Version
  version_of file = version_in file.set file.written file.count (device.bytes file.disk)

  -- its pages
  abbrev pub shown_in : OpenFile D device → ℕ → Option (List ℕ)
  shown_in file = pages_below file.count (laid (drop file.written file.set) (place (device.bytes file.disk)))

  -- the pages of the last commit that are to be written
  abbrev pub left_in : OpenFile D device → List (ℕ × List ℕ)
  left_in file = drop file.written file.set

  -- how many calls were refused, those among them that were answered since a commit was refused
  abbrev pub refused_in : OpenFile D device → ℕ
  refused_in file = device.refused file.disk + answered_in file.gate
