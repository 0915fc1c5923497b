use Rattle.std.proofs.Common.{refl}
use Rattle.journal.proofs.list.list_size.Goals as goal

pub returns-in_err-size-clause-none : goal.returns-in_err-size-clause-none
returns-in_err-size-clause-none c none = c.in_err-size.ensures.none refl
