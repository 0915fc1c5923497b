-- Exit statuses, and what is said of a fault. All of this is our own choice.
use Rattle.std.specs.Prelude.{ℕ, Bool, true, false, Result, Ok, Err}
use Rattle.refusals.specs.declared.refusal.Refusal.{Refusal}
use Rattle.refusals.specs.declared.refusal.Refusal.TheVariants as refusal
use Rattle.scripts.specs.declared.script.ScriptFault.{ScriptFault}
use Rattle.scripts.specs.declared.script.ScriptFault.TheVariants.{Memory, Reader, Writer}

-- of a script that ended so; its answer tells whether some reply was a refusal
abbrev pub status_of : Result Bool ScriptFault → ℕ
status_of (Ok false) = 0
status_of (Ok true) = 1
status_of (Err fault) = 3

-- what is said of a fault: X0001 for want of memory, X0002 where input or output was refused
abbrev pub refusal_of : ScriptFault → Refusal
refusal_of Memory = refusal.Memory
refusal_of (Reader error) = refusal.Disk
refusal_of (Writer error) = refusal.Disk
