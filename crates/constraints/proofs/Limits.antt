-- Refusals that tell a limit of what a store counts, and those that tell none.
use Rattle.std.proofs.Common.{◌≡◌, subst, sym}
use Rattle.refusals.specs.declared.limit.Limit.TheVariants as limit
use Rattle.refusals.specs.declared.refusal.Refusal.{Refusal}
use Rattle.refusals.specs.declared.refusal.Refusal.TheVariants as refused
use Rattle.denote.specs.declared.fault.Fault.{Fault}
use Rattle.denote.specs.declared.fault.Fault.TheVariants as raised
use Rattle.denote.specs.declared.fault.Stop.{Stop}
use Rattle.denote.specs.declared.fault.Stop.TheVariants as stopped
use Rattle.session_definitions.specs.Refusals.{refusal_of}
use Rattle.store.specs.declared.error.StoreLimit.{StoreLimit}
use Rattle.store.specs.declared.error.StoreLimit.TheVariants as reached
use Rattle.store.specs.Errors.{Never}
use Rattle.transactions.specs.Refused.{TellsReached, TellsNoLimit}
use Rattle.constraints.specs.Stopped.{refused_by}

-- what is told may be reached otherwise
pub tells_wider : (P Q : StoreLimit → Type 0) → (P reached.Pages → Q reached.Pages) → (P reached.Private → Q reached.Private) → (P reached.Kept → Q reached.Kept)
    → (r : Refusal) → TellsReached P r → TellsReached Q r
tells_wider P Q pages private kept (refused.Exceeded limit.Pages) h = pages h
tells_wider P Q pages private kept (refused.Exceeded limit.Private) h = private h
tells_wider P Q pages private kept (refused.Exceeded limit.Kept) h = kept h
tells_wider P Q pages private kept _ h = tt

-- where none is told any may be
pub tells_none : (Q : StoreLimit → Type 0) (r : Refusal) → TellsNoLimit r → TellsReached Q r
tells_none Q r h = tells_wider Never Q (λ never. absurd never) (λ never. absurd never) (λ never. absurd never) r h

-- nor does what stops an evaluation tell one
fault_tells : (fault : Fault) → TellsNoLimit (refusal_of fault)
fault_tells raised.ManyRows = tt
fault_tells raised.TextTooLong = tt
fault_tells raised.OutOfRange = tt
fault_tells raised.DivisionByZero = tt
fault_tells raised.Record = tt
fault_tells raised.Key = tt

pub stop_tells : (stop : Stop) (r : Refusal) → r ≡ refused_by stop → TellsNoLimit r
stop_tells stop r is = subst TellsNoLimit (sym is) (by stop)
  where
    by : (stop : Stop) → TellsNoLimit (refused_by stop)
    by stopped.Memory = tt
    by (stopped.Fault fault) = fault_tells fault
