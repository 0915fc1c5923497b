use Rattle.std.proofs.Common.{refl}
use Rattle.journal.proofs.recovery.finish.Goals as goal

pub returns-in-Ok-clause-done : goal.returns-in-Ok-clause-done
returns-in-Ok-clause-done g c = record {
  same = refl;
  shut = λ honest v stands. c.in-Ok.ensures.shut honest v stands;
  only = λ durable honest only. c.in-Ok.ensures.only durable honest only;
  closed = λ honest. c.in-Ok.ensures.closed honest;
  size = λ honest some. c.settle.ensures.size honest some;
}
