use Rattle.std.proofs.Common.{refl}
use Rattle.overlay.proofs.takes.next_free.Goals as goal

pub returns-in_err-free-clause-none : goal.returns-in_err-free-clause-none
returns-in_err-free-clause-none c = λ _ next free below. c.in_err-free.ensures.none refl next free
