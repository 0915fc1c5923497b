use Rattle.parallel_scripts.proofs.Endings.{said, said_status}
use Rattle.parallel_scripts.proofs.ending.say.Goals as goal

pub returns-clause-puts : goal.returns-clause-puts
returns-clause-puts g c = said _ _ _ _ _ _ c.print_reply-printed.ensures.writes c.with_status.ensures

pub returns-clause-status : goal.returns-clause-status
returns-clause-status g c = λ allowed. said_status _ _ _ c.with_status.ensures allowed
