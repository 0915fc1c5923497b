-- Whether a commit was refused, and what is answered since then.
use Rattle.std.specs.Prelude.{◌≡◌, ℕ, Bool, true, false}
use Rattle.disk.specs.declared.error.DiskError.{DiskError}
use Rattle.last_version.specs.declared.gate.Gate.{Gate}
use Rattle.last_version.specs.declared.gate.Gate.TheVariants.{Shut, Open, Broken}

-- a commit was refused
abbrev pub is_broken : Gate → Bool
is_broken Shut = false
is_broken Open = false
is_broken (Broken cause answered) = true

-- it was refused for this cause
abbrev pub IsBrokenBy : Gate → DiskError → Type 0
IsBrokenBy Shut e = ⊥
IsBrokenBy Open e = ⊥
IsBrokenBy (Broken cause answered) e = e ≡ cause

-- how many calls were refused since then without one of the device
abbrev pub answered_in : Gate → ℕ
answered_in Shut = 0
answered_in Open = 0
answered_in (Broken cause answered) = answered

-- the gate is shut
abbrev pub is_shut : Gate → Bool
is_shut Shut = true
is_shut Open = false
is_shut (Broken cause answered) = false
