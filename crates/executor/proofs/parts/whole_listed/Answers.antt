use Rattle.std.proofs.Common.{sym, subst}
use Rattle.denote.specs.declared.fault.Stop.{Stop}
use Rattle.kernels.specs.Aggregates.{IsEndedBy}
use Rattle.executor.proofs.parts.whole_listed.Goals as goal

pub returns-in-Ok : goal.returns-in-Ok
returns-in-Ok c = record { lists = λ meant given. record { ok = sym (rw c.in-Ok.is at given).ok; err = tt } }

pub returns-in-Err : goal.returns-in-Err
returns-in-Err c =
    record {
      lists = λ meant given. c.ended_by.ensures.lists meant
          (λ fault e. rw c.new.ensures (sym (subst (λ (k : Stop). IsEndedBy meant k) e (rw c.in-Err.is at given).err)));
    }
