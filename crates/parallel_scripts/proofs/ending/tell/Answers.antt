use Rattle.parallel_scripts.proofs.Endings.{begun, kept, whole_written}
use Rattle.parallel_scripts.proofs.ending.tell.Goals as goal

pub returns-in-Ok : goal.returns-in-Ok
returns-in-Ok g c = whole_written _ _ _ _ _ _ _ c.in-Ok.is c.print_reply-printed.ensures.writes c.pass_on-passed_on.ensures

pub returns-in-Err : goal.returns-in-Err
returns-in-Err g c = kept _ _ _ _ _ (begun _ _ _ _ c.print_reply-printed.ensures.writes) c.pass_on-passed_on.ensures
