use Rattle.endings.proofs.Flushed.{flushed, passed_on}
use Rattle.endings.proofs.telling.say.Goals as goal

pub returns-in-Ok-clause-says : goal.returns-in-Ok-clause-says
returns-in-Ok-clause-says g c = passed_on _ _ _ _ _ _ _ c.in-Ok.is c.print_reply-printed.ensures.writes c.pass_on-passed_on.ensures.bytes

pub returns-in-Err-clause-says : goal.returns-in-Err-clause-says
returns-in-Err-clause-says g c = flushed _ _ _ _ _ c.print_reply-printed.ensures.writes c.pass_on-passed_on.ensures.bytes
