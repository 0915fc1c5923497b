-- What a `LastVersion` shows.
use Rattle.std.specs.Prelude.{◌≡◌, ◌⊎◌, ℕ, List, length, Bool, Option}
use Rattle.disk.specs.declared.DiskError.{DiskError}
use Rattle.disk.specs.declared.device.Disk.{Ghosts}
use Rattle.journal.specs.Versions.{Version}
use Rattle.page_cache.specs.Cached as cached
use Rattle.last_version.specs.declared.version.LastVersion.{LastVersion}
use Rattle.last_version.specs.Gates as gate
use Rattle.last_version.specs.Standing.{version_of, shown_in, left_in, refused_in, waits_in}

module _ {D : Type 0} {device : Ghosts D} where
  -- the device under it
  abbrev pub device_under : LastVersion D device → D
  device_under last = last.file.disk

  -- how many pages there are
  abbrev pub count_of : LastVersion D device → ℕ
  count_of last = last.file.count

  -- the version, as its journal has it
  abbrev pub version_under : LastVersion D device → Version
  version_under last = version_of last.file

  -- its pages, as a reader finds them
  abbrev pub shown_by : LastVersion D device → ℕ → Option (List ℕ)
  shown_by last = shown_in last.file

  -- how many pages are to be written
  abbrev pub left_of : LastVersion D device → ℕ
  left_of last = length (left_in last.file)

  -- 1 where the page of this number is to be written, 0 where it is not
  abbrev pub waits_at : LastVersion D device → ℕ → ℕ
  waits_at last = waits_in (left_in last.file)

  -- how many calls were refused, those among them that were answered since a commit was refused
  abbrev pub refused_of : LastVersion D device → ℕ
  refused_of last = refused_in last.file

  -- whether a commit was refused
  abbrev pub is_broken : LastVersion D device → Bool
  is_broken last = gate.is_broken last.file.gate

  -- a commit was refused for this cause
  abbrev pub IsBrokenBy : LastVersion D device → DiskError → Type 0
  IsBrokenBy last = gate.IsBrokenBy last.file.gate

  -- how many of its pages may be in memory beside those of the last commit
  abbrev pub room_of : LastVersion D device → ℕ
  room_of last = cached.room_of last.cache

  -- the gate is shut: no page is to be written, and the file has the version in its places
  abbrev pub is_at_rest : LastVersion D device → Bool
  is_at_rest last = gate.is_shut last.file.gate

  -- for this cause the device refused its last refused call, or a commit was refused
  abbrev pub Tells : LastVersion D device → DiskError → Type 0
  Tells last e = device.told (device_under last) e ⊎ IsBrokenBy last e

  -- it has as many pages, of which as many are to be written, and as many may be in memory
  pub record HoldsAs (old new : LastVersion D device) : Type 0 where
    pub count : count_of new ≡ count_of old
    pub left : left_of new ≡ left_of old
    pub waits : (n : ℕ) → waits_at new n ≡ waits_at old n
    pub broken : is_broken new ≡ is_broken old
    pub room : room_of new ≡ room_of old
