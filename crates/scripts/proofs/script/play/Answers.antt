use Rattle.std.proofs.Common.{rules, ◌≡◌, ◌∙◌, subst, true, false}
use Rattle.std.proofs.Math.Nat.{le_trans}
use Rattle.sessions.specs.OfCore.{world_of}
use Rattle.scripts.specs.Settled.{store_of}
use Rattle.scripts.specs.Playing.{AfterTurn}
use Rattle.scripts.proofs.Carried.{reading_ended}
use Rattle.scripts.proofs.Outcomes.{kept_on}
use Rattle.scripts.proofs.script.play.Goals as goal

pub returns-in-Ok-false-clause-plays : goal.returns-in-Ok-false-clause-plays
returns-in-Ok-false-clause-plays g c = λ start kept reading.
    let is : c.in-Ok-false.field-0 ≡ false = search rules in
    subst (λ b. AfterTurn b start (g.R.Read.remaining c.turn.new.reader) (world_of g.S.Store.shows c.turn.new.core) c.turn.new.cutter c.turn.new.sessions (g.W.Write.contents c.turn.new.writer)
    (g.S.Store.refused (store_of c.turn.new.core))) is
    (c.in-Ok-false.ensures.plays start (kept_on g.S.Store.is_sound g.S.Store.shows start.known c.args.core.now c.loop.core c.loop.invariant.kept kept) (c.loop.invariant.plays start kept reading))

pub returns-in-Ok-false-clause-kept : goal.returns-in-Ok-false-clause-kept
returns-in-Ok-false-clause-kept g c = λ r are h. c.turn.ensures.kept r are (c.loop.invariant.kept r are h)

pub returns-in-Err-clause-plays : goal.returns-in-Err-clause-plays
returns-in-Err-clause-plays g c = λ start kept reading.
    c.in-Err.ensures.plays start (kept_on g.S.Store.is_sound g.S.Store.shows start.known c.args.core.now c.loop.core c.loop.invariant.kept kept) (c.loop.invariant.plays start kept reading)

pub returns-in-Err-clause-kept : goal.returns-in-Err-clause-kept
returns-in-Err-clause-kept g c = λ r are h. c.turn.ensures.kept r are (c.loop.invariant.kept r are h)

pub loop-preserved : goal.loop-preserved
loop-preserved g c = record {
  plays = λ start kept reading.
      let is : c.in-Ok-true.field-0 ≡ true = search rules in
      subst (λ b. AfterTurn b start (g.R.Read.remaining c.turn.new.reader) (world_of g.S.Store.shows c.turn.new.core) c.turn.new.cutter c.turn.new.sessions (g.W.Write.contents c.turn.new.writer)
      (g.S.Store.refused (store_of c.turn.new.core))) is
      (c.in-Ok-true.ensures.plays start (kept_on g.S.Store.is_sound g.S.Store.shows start.known c.args.core.now c.loop.core c.loop.invariant.kept kept) (c.loop.invariant.plays start kept reading));
  kept = λ r are h. c.turn.ensures.kept r are (c.loop.invariant.kept r are h);
  held = λ held. c.turn.ensures.held (c.loop.invariant.held held);
  counts = le_trans c.loop.invariant.counts c.turn.ensures.counts;
  passed = c.in-Ok-true.ensures.flushed;
  room = c.turn.ensures.room ∙ c.loop.invariant.room;
}

pub returns-clause-plays : goal.returns-clause-plays
returns-clause-plays g c = λ start kept reading. reading_ended start _ _ _ _ _ _ (c.loop.invariant.plays start kept reading)

pub returns-in-Ok-false-clause-held : goal.returns-in-Ok-false-clause-held
returns-in-Ok-false-clause-held g c = λ held. c.turn.ensures.held (c.loop.invariant.held held)

pub returns-in-Err-clause-held : goal.returns-in-Err-clause-held
returns-in-Err-clause-held g c = λ held. c.turn.ensures.held (c.loop.invariant.held held)
