use Rattle.std.proofs.Common.{refl}
use Rattle.journal.proofs.examine.find.Goals as goal

pub returns-in-None-clause-none : goal.returns-in-None-clause-none
returns-in-None-clause-none c format h = c.in-None.ensures.none refl format h
