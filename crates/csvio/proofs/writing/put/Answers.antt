use Rattle.replies.proofs.Written.{HasTaken-more, HasTaken-kept}
use Rattle.csvio.proofs.writing.put.Goals.{in-Ok, in-Err+else-ne}
use Rattle.csvio.proofs.writing.put.Goals as goal

pub loop-preserved : goal.loop-preserved
loop-preserved g c = elim c.match-write.branch [
  | in-Ok w ↦ rw (w.rest-is) (HasTaken-more _ _ _ _ _ w.in-Ok.taken c.loop.invariant w.in-Ok.ensures.bytes)
  | in-Err+else-ne w ↦ rw (w.rest-is) (HasTaken-kept _ _ _ _ _ c.loop.invariant w.in-Err.ensures.bytes)
]
