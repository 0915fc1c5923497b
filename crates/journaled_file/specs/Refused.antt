-- Why a file was not opened, with the counts of refused device calls before and after. Our own
-- choice.
use Rattle.std.specs.Prelude.{◌≡◌, ℕ}
use Rattle.disk.specs.declared.DiskError.{DiskError}
use Rattle.disk.specs.Refused.{CountHasRisen}
use Rattle.pagefile.specs.declared.error.OpenError.{OpenError}
use Rattle.pagefile.specs.declared.error.OpenError.TheVariants as cause
use Rattle.journaled_file.specs.declared.opening.OpenRefusal.{OpenRefusal}
use Rattle.journaled_file.specs.declared.opening.OpenRefusal.TheVariants.{Memory, Device, Damaged}

-- why a file is not opened that a recovery did not take
abbrev pub refusal_for : OpenError → OpenRefusal
refusal_for cause.Damaged = Damaged
refusal_for (cause.Device e) = Device e

-- the device refused a call just where the cause says so
abbrev pub IsCounted : OpenRefusal → ℕ → ℕ → Type 0
IsCounted Memory old new = new ≡ old
IsCounted (Device e) old new = CountHasRisen old new
IsCounted Damaged old new = new ≡ old

-- a refusal for the device has a cause that the device told
abbrev pub IsTold : (DiskError → Type 0) → OpenRefusal → Type 0
IsTold told Memory = Unit {0}
IsTold told (Device cause) = told cause
IsTold told Damaged = Unit {0}
