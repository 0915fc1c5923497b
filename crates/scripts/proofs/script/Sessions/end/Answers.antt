use Rattle.std.proofs.Common.{rules, ◌<◌, length}
use Rattle.std.proofs.Math.Nat.{le_trans}
use Rattle.sessions.specs.OfCore.{world_of}
use Rattle.scripts.proofs.Keeping.{kept_ended}
use Rattle.scripts.proofs.Placed.{held_ended, held_skipped, held_past}
use Rattle.scripts.proofs.Ending.{ends_from_first, ends_next, ends_skip, ends_all}
use Rattle.scripts.proofs.script.Sessions.end.Goals as goal
use Rattle.scripts.proofs.script.Sessions.end.Goals.{in-Some, in_default}

pub loop-slot-init : goal.loop-slot-init
loop-slot-init g c = record {
  ends = ends_from_first _ _;
  kept = λ r are h. h;
  held = λ held. held;
  counts = search rules;
}

pub loop-slot-preserved : goal.loop-slot-preserved
loop-slot-preserved g c =
    let within : c.loop-slot.slot-index < length c.args.self.now.standing = search rules in
    elim c.match-slot.branch [
      | in-Some w ↦ rw w.core-is (record {
        ends = λ live. ends_next _ c.args.self.now.standing c.loop-slot.slot-index w.in-Some.session _ _ within w.in-Some.is w.end_session.ensures.drops (c.loop-slot.invariant.ends live);
        kept = λ r are h. kept_ended g.S.Store.is_sound g.S.Store.shows r w.in-Some.session c.loop-slot.core w.end_session.new.self
            w.end_session.ensures.drops w.end_session.ensures.ended w.end_session.ensures.sound (c.loop-slot.invariant.kept r are h);
        held = λ held. held_ended c.args.self.now.standing c.loop-slot.slot-index w.in-Some.session (world_of g.S.Store.shows c.loop-slot.core) (world_of g.S.Store.shows w.end_session.new.self) within
            w.in-Some.is w.end_session.ensures.live.0 w.end_session.ensures.live.1 (c.loop-slot.invariant.held held);
        counts = le_trans c.loop-slot.invariant.counts w.end_session.ensures.counts;
      })
      | in_default w ↦ rw w.core-is (record {
        ends = λ live. ends_skip _ c.args.self.now.standing c.loop-slot.slot-index _ within w.in_default.is (c.loop-slot.invariant.ends live);
        kept = c.loop-slot.invariant.kept;
        held = λ held. held_skipped c.args.self.now.standing c.loop-slot.slot-index (world_of g.S.Store.shows c.loop-slot.core) within w.in_default.is (c.loop-slot.invariant.held held);
        counts = c.loop-slot.invariant.counts;
      })
    ]

pub returns-clause-ends : goal.returns-clause-ends
returns-clause-ends g c = λ live. ends_all _ c.args.self.now.standing c.loop-slot.slot-index _ (search rules) (c.loop-slot.invariant.ends live)

pub returns-clause-ended : goal.returns-clause-ended
returns-clause-ended g c = λ held.
    held_past c.args.self.now.standing c.loop-slot.slot-index (world_of g.S.Store.shows c.loop-slot.core) (search rules) (c.loop-slot.invariant.held held)
