-- What a paged store shows, when it is sound, and what every call keeps. Our own choice.
use Rattle.std.specs.Prelude.{◌≡◌}
use Rattle.disk.specs.declared.device.Disk.{Ghosts}
use Rattle.store.specs.Going.{Going, Goes, Noted, noted}
use Rattle.store.specs.Stored.{Stored}
use Rattle.pool.specs.Versions.{versions_of, device_of, refused_of}
use Rattle.overlay.specs.WriteSet.{private_of, settled_of}
use Rattle.snapshot_pins.specs.Pinned.{numbers_of}
use Rattle.database_versions.specs.Databases.{nothing}
use Rattle.paged_store.specs.declared.paged.Paged.{Paged}
use Rattle.paged_store.specs.Shown.{stored}
use Rattle.paged_store.specs.Sound.{IsSound}

-- a function of its bytes; over a device that is not honest nothing is known of tables
abbrev pub shown_of : {D : Type 0} {device : Ghosts D} → Paged D device → Stored
shown_of {D} {device} s = stored device.is_honest (versions_of s.pool) (numbers_of s.readers) (private_of s.changes) (settled_of s.changes)

abbrev pub sound_of : {D : Type 0} {device : Ghosts D} → Paged D device → Type 0
sound_of {D} {device} s = IsSound device.is_honest (versions_of s.pool) (numbers_of s.readers) (private_of s.changes) (settled_of s.changes)

-- no page was written since the last commit, or since the pages were dropped
abbrev pub unchanged_of : {D : Type 0} {device : Ghosts D} → Paged D device → Type 0
unchanged_of {D} {device} s = private_of s.changes ≡ nothing

-- what it tells of itself
abbrev pub noted_of : {D : Type 0} {device : Ghosts D} → Paged D device → Noted
noted_of {D} {device} s = noted (shown_of s) s.prepared (refused_of s.pool) s.damaged s.read (device.writes (device_of s.pool))

-- what every call keeps
abbrev pub PagedGoes : {D : Type 0} {device : Ghosts D} → Going → Paged D device → Paged D device → Type 0
PagedGoes {D} {device} going a b = Goes going (sound_of a) (sound_of b) (unchanged_of a) (unchanged_of b) (noted_of a) (noted_of b)
