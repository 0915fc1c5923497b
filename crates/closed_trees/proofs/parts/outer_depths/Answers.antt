use Rattle.std.proofs.Common.{sym}
use Rattle.std.proofs.lemmas.Grind.{get_or_default_zero}
use Rattle.closed_trees.proofs.Outwards.{outwards-taken}
use Rattle.closed_trees.proofs.parts.outer_depths.Goals as goal

pub loop-depth-preserved : goal.loop-depth-preserved
loop-depth-preserved c = outwards-taken c.args.depths.now c.loop-depth.depth-index _ c.loop-depth-test.true (sym (get_or_default_zero _ _ _ c.loop-depth-test.true)) c.loop-depth.invariant c.in_ok-put_outer.ensures
