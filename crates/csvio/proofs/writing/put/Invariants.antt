use Rattle.replies.proofs.Written.{HasTaken}
use Rattle.csvio.proofs.writing.put.Given as goal

abbrev pub invariant-loop : goal.invariant-loop
invariant-loop g l = HasTaken (g.W.Write.contents l.initial.writer) (g.W.Write.contents l.writer) l.bytes l.rest
