-- The refusal that a stop of an evaluation is shown as.
use Rattle.refusals.specs.declared.refusal.Refusal.{Refusal}
use Rattle.refusals.specs.declared.refusal.Refusal.TheVariants as refused
use Rattle.denote.specs.declared.fault.Stop.{Stop}
use Rattle.denote.specs.declared.fault.Stop.TheVariants.{Memory, Fault}
use Rattle.session_definitions.specs.Refusals.{refusal_of}

abbrev pub refused_by : Stop → Refusal
refused_by Memory = refused.Memory
refused_by (Fault fault) = refusal_of fault
