use Rattle.std.proofs.Common.{refl}
use Rattle.transfers.specs.Transfers.{Closes, HandsBack}
use Rattle.transfers.proofs.closing.close_behind.Goals as goal

pub returns-in-Ok-clause-closes : goal.returns-in-Ok-clause-closes
returns-in-Ok-clause-closes g c = Closes.closed c.in-Ok.device refl refl refl refl

pub returns-in-Ok-clause-handed : goal.returns-in-Ok-clause-handed
returns-in-Ok-clause-handed g c = HandsBack.closed c.in-Ok.device refl c.in-Ok.ensures.settled c.in-Ok.ensures.counts

pub returns-in-Err-clause-closes : goal.returns-in-Err-clause-closes
returns-in-Err-clause-closes g c =
    Closes.not_closed c.in-Err.refused.value c.failed.ensures.unclosed c.failed.ensures.device (rw c.in-Err.ensures.fails.0 at c.failed.ensures.tells) c.failed.ensures.status

pub returns-in-Err-clause-saved : goal.returns-in-Err-clause-saved
returns-in-Err-clause-saved g c = λ sound. rw c.failed.ensures.device tt

pub returns-in-Err-clause-handed : goal.returns-in-Err-clause-handed
returns-in-Err-clause-handed g c = HandsBack.not_closed c.failed.ensures.device (rw c.failed.ensures.unclosed c.in-Err.ensures.device)

pub returns-in-Ok-clause-saved : goal.returns-in-Ok-clause-saved
returns-in-Ok-clause-saved g c = c.in-Ok.ensures.closed
