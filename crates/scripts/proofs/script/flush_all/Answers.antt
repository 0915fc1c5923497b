use Rattle.std.proofs.Common.{◌∙◌}
use Rattle.std.proofs.Math.Nat.{le_trans}
use Rattle.sessions.proofs.Devices.{risen_later}
use Rattle.scripts.proofs.Keeping.{kept_same, same_world}
use Rattle.scripts.proofs.script.flush_all.Goals as goal

pub returns-in-Err-clause-kept : goal.returns-in-Err-clause-kept
returns-in-Err-clause-kept g c = λ r h.
    kept_same g.S.Store.is_sound g.S.Store.shows r c.args.core.now c.flush.new.self c.flush.ensures.same c.flush.ensures.sound h

pub loop-left-init : goal.loop-left-init
loop-left-init g c = record {
  left = c.in-Ok.ensures.left;
  same = same_world g.S.Store.shows c.args.core.now c.flush.new.self c.flush.ensures.same;
  kept = λ r h. kept_same g.S.Store.is_sound g.S.Store.shows r c.args.core.now c.flush.new.self c.flush.ensures.same c.flush.ensures.sound h;
  counts = c.flush.ensures.counts;
}

pub loop-left-preserved : goal.loop-left-preserved
loop-left-preserved g c = record {
  left = c.in-Ok-flush.ensures.left;
  same = same_world g.S.Store.shows c.loop-left.core c.flush-in-loop-left.new.self c.flush-in-loop-left.ensures.same ∙ c.loop-left.invariant.same;
  kept = λ r h. kept_same g.S.Store.is_sound g.S.Store.shows r c.loop-left.core c.flush-in-loop-left.new.self c.flush-in-loop-left.ensures.same
      c.flush-in-loop-left.ensures.sound (c.loop-left.invariant.kept r h);
  counts = le_trans c.loop-left.invariant.counts c.flush-in-loop-left.ensures.counts;
}

pub returns-in-Err-flush-clause-kept : goal.returns-in-Err-flush-clause-kept
returns-in-Err-flush-clause-kept g c = λ r h.
    kept_same g.S.Store.is_sound g.S.Store.shows r c.loop-left.core c.flush-in-loop-left.new.self c.flush-in-loop-left.ensures.same
    c.flush-in-loop-left.ensures.sound (c.loop-left.invariant.kept r h)

pub returns-in-Err-flush-clause-device : goal.returns-in-Err-flush-clause-device
returns-in-Err-flush-clause-device g c = λ is. risen_later _ _ _ c.loop-left.invariant.counts (c.in-Err-flush.ensures.device is)
