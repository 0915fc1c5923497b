use Rattle.sessions.specs.OfCore.{world_of}
use Rattle.scripts.proofs.Carried.{finishes, finished_kept}
use Rattle.scripts.proofs.script.play_last.Goals as goal

pub returns-in-Ok-clause-plays : goal.returns-in-Ok-clause-plays
returns-in-Ok-clause-plays g c = λ start input kept p.
    let asks = (c.finish-last.ensures p.cut.bytes p.cut.has_read).1.asks in
    finished_kept start input _ _ _ _ _ _ c.pass_on.ensures.bytes
    (finishes start input (world_of g.S.Store.shows c.args.core.now) (world_of g.S.Store.shows c.carry_out_piece.new.core) c.args.cutter.now c.args.sessions.now c.carry_out_piece.new.sessions _ _ _ _ _
    p (c.in-Ok.ensures.carries_out start.known p.cut.bytes kept asks))

pub returns-in-Err-clause-plays : goal.returns-in-Err-clause-plays
returns-in-Err-clause-plays g c = λ start input kept p.
    let asks = (c.finish-last.ensures p.cut.bytes p.cut.has_read).1.asks in
    finishes start input (world_of g.S.Store.shows c.args.core.now) (world_of g.S.Store.shows c.carry_out_piece.new.core) c.args.cutter.now c.args.sessions.now c.carry_out_piece.new.sessions _ _ _ _ _
    p (c.in-Err.ensures.carries_out start.known p.cut.bytes kept asks)

pub returns-in-Ok-clause-flushed : goal.returns-in-Ok-clause-flushed
returns-in-Ok-clause-flushed g c = c.pass_on.ensures.flushed

pub returns-in-Ok-clause-tried_again : goal.returns-in-Ok-clause-tried_again
returns-in-Ok-clause-tried_again g c = c.pass_on.ensures.tried_again

pub returns-in-Ok-clause-kept : goal.returns-in-Ok-clause-kept
returns-in-Ok-clause-kept g c = c.carry_out_piece.ensures.kept

pub returns-in-Ok-clause-held : goal.returns-in-Ok-clause-held
returns-in-Ok-clause-held g c = c.carry_out_piece.ensures.held

pub returns-in-Ok-clause-counts : goal.returns-in-Ok-clause-counts
returns-in-Ok-clause-counts g c = c.carry_out_piece.ensures.counts

pub returns-in-Err-clause-flushed : goal.returns-in-Err-clause-flushed
returns-in-Err-clause-flushed g c = tt

pub returns-in-Err-clause-tried_again : goal.returns-in-Err-clause-tried_again
returns-in-Err-clause-tried_again g c = c.in-Err.ensures.tried_again

pub returns-in-Err-clause-kept : goal.returns-in-Err-clause-kept
returns-in-Err-clause-kept g c = c.carry_out_piece.ensures.kept

pub returns-in-Err-clause-held : goal.returns-in-Err-clause-held
returns-in-Err-clause-held g c = c.carry_out_piece.ensures.held

pub returns-in-Err-clause-counts : goal.returns-in-Err-clause-counts
returns-in-Err-clause-counts g c = c.carry_out_piece.ensures.counts
