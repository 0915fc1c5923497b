-- What an evaluation may be refused for.
use Rattle.std.specs.Prelude.{◌≡◌, ◌⊎◌, List, Contains}
use Rattle.refusals.specs.declared.refusal.Refusal.{Refusal}
use Rattle.refusals.specs.declared.refusal.Refusal.TheVariants.{Memory}
use Rattle.denote.specs.declared.fault.Fault.{Fault}
use Rattle.session_definitions.specs.Refusals.{IsReserved, refusal_of}

-- want of memory, a device that refused or a limit of the store; or one of these faults
abbrev pub MayRefuse : List Fault → Refusal → Type 0
MayRefuse faults refusal = IsReserved refusal ⊎ ((fault : Fault) × (refusal ≡ refusal_of fault) × Contains faults fault)

-- want of memory, or one of these faults
abbrev pub GivesFaults : List Fault → Refusal → Type 0
GivesFaults faults refusal = (refusal ≡ Memory)
    ⊎ ((fault : Fault) × (refusal ≡ refusal_of fault) × Contains faults fault)
