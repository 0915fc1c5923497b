-- What a `CrashDisk` shows.
use Rattle.std.specs.Prelude.{ℕ, List}
use Rattle.crash_disk.specs.declared.device.CrashDisk.{CrashDisk}
use Rattle.crash_disk.specs.declared.device.Fill.{Fill}
use Rattle.crash_disk.specs.declared.outcome.Outcome.{Outcome}
use Rattle.crash_disk.specs.Outcomes.{newest}

-- its bytes, as a read gives them
abbrev pub bytes_of : CrashDisk → List ℕ
bytes_of d = d.disk.bytes

-- what a crash now may leave
abbrev pub outcome_of : CrashDisk → Outcome
outcome_of d = newest d.first d.later.items

-- the bytes that were synced last
abbrev pub synced_of : CrashDisk → List ℕ
synced_of d = (outcome_of d).synced.items

-- how many calls it still carries out
abbrev pub left_of : CrashDisk → ℕ
left_of d = d.left

-- what a crash leaves of what was not synced
abbrev pub fill_of : CrashDisk → Fill
fill_of d = d.fill
