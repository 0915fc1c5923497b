use Rattle.std.proofs.Common.{refl, None, Some}
use Rattle.sessions.specs.OfCore.{world_of}
use Rattle.scripts.specs.Settled.{store_of}
use Rattle.scripts.specs.Playing.{Start}
use Rattle.scripts.proofs.Keeping.{kept_at_first, settled_at_last, settled_committed}
use Rattle.scripts.proofs.Placed.{held_at_first}
use Rattle.scripts.proofs.Carried.{begins_reading}
use Rattle.scripts.proofs.Outcomes.{ended_live, failed_live, failed_otherwise, kept_by, kept_by_none, nothing_ran, nothing_shown, runs_in_part, runs_whole, shows_early, shows_whole}
use Rattle.scripts.proofs.script.run.Goals as goal

-- ---- without memory

pub returns-in-Err-clause-shows : goal.returns-in-Err-clause-shows
returns-in-Err-clause-shows g c = nothing_shown _ _

pub returns-in-Err-clause-stopped : goal.returns-in-Err-clause-stopped
returns-in-Err-clause-stopped g c = λ r are h. nothing_ran r _ _ _ _

pub returns-in-Err-clause-committed : goal.returns-in-Err-clause-committed
returns-in-Err-clause-committed g c = λ r are h. settled_committed g.S.Store.is_sound g.S.Store.shows r c.args.core.now h

-- ---- all was carried out

pub returns-in-Ok-outcome-clause-shows : goal.returns-in-Ok-outcome-clause-shows
returns-in-Ok-outcome-clause-shows g c =
    let start : Start = record {
      known = None;
      world = world_of g.S.Store.shows c.args.core.now;
      given = g.R.Read.remaining c.args.reader.now;
      held = g.W.Write.contents c.args.writer.now;
      refused = g.S.Store.refused (store_of c.args.core.now);
    } in
    let reading = begins_reading start 64 c.in-Ok.cutter _ c.in-Ok.ensures refl refl refl in
    let ended = c.in-Ok-outcome.ensures.plays start (kept_by_none g.S.Store.is_sound g.S.Store.shows c.args.core.now) reading in
    shows_whole start _ (world_of g.S.Store.shows c.play-outcome.new.core) c.play-outcome.new.sessions _ _ _ ended c.end.ensures.counts

pub returns-in-Ok-outcome-clause-plays : goal.returns-in-Ok-outcome-clause-plays
returns-in-Ok-outcome-clause-plays g c = λ r are h.
    let start : Start = record {
      known = Some r;
      world = world_of g.S.Store.shows c.args.core.now;
      given = g.R.Read.remaining c.args.reader.now;
      held = g.W.Write.contents c.args.writer.now;
      refused = g.S.Store.refused (store_of c.args.core.now);
    } in
    let reading = begins_reading start 64 c.in-Ok.cutter _ c.in-Ok.ensures refl refl refl in
    let kept = kept_by g.S.Store.is_sound g.S.Store.shows r c.args.core.now are (kept_at_first g.S.Store.is_sound g.S.Store.shows r c.args.core.now h) in
    let ended = c.in-Ok-outcome.ensures.plays start kept reading in
    runs_whole start r refl _ (world_of g.S.Store.shows c.play-outcome.new.core) (world_of g.S.Store.shows c.end.new.core) c.play-outcome.new.sessions _ _ _ ended
    (c.end.ensures.ends (ended_live start r refl _ (world_of g.S.Store.shows c.play-outcome.new.core) c.play-outcome.new.sessions _ _ ended)) c.end.ensures.counts

-- ---- it ended early

pub returns-clause-shows : goal.returns-clause-shows
returns-clause-shows g c =
    let start : Start = record {
      known = None;
      world = world_of g.S.Store.shows c.args.core.now;
      given = g.R.Read.remaining c.args.reader.now;
      held = g.W.Write.contents c.args.writer.now;
      refused = g.S.Store.refused (store_of c.args.core.now);
    } in
    let reading = begins_reading start 64 c.in-Ok.cutter _ c.in-Ok.ensures refl refl refl in
    let failed = c.in-Err-outcome.ensures.plays start (kept_by_none g.S.Store.is_sound g.S.Store.shows c.args.core.now) reading in
    let left = g.R.Read.remaining c.play-outcome.new.reader in
    let holds = g.W.Write.contents c.play-outcome.new.writer in
    let m = g.S.Store.refused (store_of c.play-outcome.new.core) in
    let n = g.S.Store.refused (store_of c.end.new.core) in
    shows_early start left (world_of g.S.Store.shows c.play-outcome.new.core) c.play-outcome.new.sessions holds m n c.in-Err-outcome.fault failed c.end.ensures.counts

pub returns-clause-untouched : goal.returns-clause-untouched
returns-clause-untouched g c = λ is.
    let start : Start = record {
      known = None;
      world = world_of g.S.Store.shows c.args.core.now;
      given = g.R.Read.remaining c.args.reader.now;
      held = g.W.Write.contents c.args.writer.now;
      refused = g.S.Store.refused (store_of c.args.core.now);
    } in
    let reading = begins_reading start 64 c.in-Ok.cutter _ c.in-Ok.ensures refl refl refl in
    let failed = c.in-Err-outcome.ensures.plays start (kept_by_none g.S.Store.is_sound g.S.Store.shows c.args.core.now) reading in
    let left = g.R.Read.remaining c.play-outcome.new.reader in
    let holds = g.W.Write.contents c.play-outcome.new.writer in
    let m = g.S.Store.refused (store_of c.play-outcome.new.core) in
    let n = g.S.Store.refused (store_of c.end.new.core) in
    absurd (failed_otherwise start left (world_of g.S.Store.shows c.play-outcome.new.core) c.play-outcome.new.sessions holds m n c.in-Err-outcome.fault failed is)

pub returns-clause-stopped : goal.returns-clause-stopped
returns-clause-stopped g c = λ r are h.
    let start : Start = record {
      known = Some r;
      world = world_of g.S.Store.shows c.args.core.now;
      given = g.R.Read.remaining c.args.reader.now;
      held = g.W.Write.contents c.args.writer.now;
      refused = g.S.Store.refused (store_of c.args.core.now);
    } in
    let reading = begins_reading start 64 c.in-Ok.cutter _ c.in-Ok.ensures refl refl refl in
    let kept = kept_by g.S.Store.is_sound g.S.Store.shows r c.args.core.now are (kept_at_first g.S.Store.is_sound g.S.Store.shows r c.args.core.now h) in
    let failed = c.in-Err-outcome.ensures.plays start kept reading in
    let mid = world_of g.S.Store.shows c.play-outcome.new.core in
    let left = g.R.Read.remaining c.play-outcome.new.reader in
    let holds = g.W.Write.contents c.play-outcome.new.writer in
    let m = g.S.Store.refused (store_of c.play-outcome.new.core) in
    let n = g.S.Store.refused (store_of c.end.new.core) in
    runs_in_part start r refl left mid (world_of g.S.Store.shows c.end.new.core) c.play-outcome.new.sessions holds m n c.in-Err-outcome.fault failed
    (c.end.ensures.ends (failed_live start r refl c.in-Err-outcome.fault left mid c.play-outcome.new.sessions holds m failed)) c.end.ensures.counts

-- ---- however it ends

pub returns-in-Ok-outcome-clause-ended : goal.returns-in-Ok-outcome-clause-ended
returns-in-Ok-outcome-clause-ended g c = λ none. c.end.ensures.ended (c.play-outcome.ensures.held (held_at_first _ (world_of g.S.Store.shows c.args.core.now) none))

pub returns-clause-ended : goal.returns-clause-ended
returns-clause-ended g c = λ none. c.end.ensures.ended (c.play-outcome.ensures.held (held_at_first _ (world_of g.S.Store.shows c.args.core.now) none))

pub returns-in-Ok-outcome-clause-settled : goal.returns-in-Ok-outcome-clause-settled
returns-in-Ok-outcome-clause-settled g c = λ r are h.
    settled_at_last g.S.Store.is_sound g.S.Store.shows r c.end.new.core
    (c.end.ensures.kept r are (c.play-outcome.ensures.kept r are (kept_at_first g.S.Store.is_sound g.S.Store.shows r c.args.core.now h)))
    (c.end.ensures.ended (c.play-outcome.ensures.held (held_at_first _ (world_of g.S.Store.shows c.args.core.now) h.ended)))

pub returns-clause-settled : goal.returns-clause-settled
returns-clause-settled g c = λ r are h.
    settled_at_last g.S.Store.is_sound g.S.Store.shows r c.end.new.core
    (c.end.ensures.kept r are (c.play-outcome.ensures.kept r are (kept_at_first g.S.Store.is_sound g.S.Store.shows r c.args.core.now h)))
    (c.end.ensures.ended (c.play-outcome.ensures.held (held_at_first _ (world_of g.S.Store.shows c.args.core.now) h.ended)))

pub returns-in-Ok-outcome-clause-committed : goal.returns-in-Ok-outcome-clause-committed
returns-in-Ok-outcome-clause-committed g c = λ r are h.
    settled_committed g.S.Store.is_sound g.S.Store.shows r c.end.new.core (returns-in-Ok-outcome-clause-settled g c r are h)

pub returns-clause-committed : goal.returns-clause-committed
returns-clause-committed g c = λ r are h.
    settled_committed g.S.Store.is_sound g.S.Store.shows r c.end.new.core (returns-clause-settled g c r are h)
