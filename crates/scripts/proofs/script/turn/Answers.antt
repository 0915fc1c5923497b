use Rattle.std.proofs.Common.{rules, ap, ◌≡◌, ◌<◌, take, length, le_refl}
use Rattle.sessions.specs.OfCore.{world_of}
use Rattle.scripts.proofs.Carried.{turn_unread, turn_on, turn_broken, turn_ended, turn_stopped}
use Rattle.scripts.proofs.script.turn.Goals as goal

pub returns-in-Err-clause-plays : goal.returns-in-Err-clause-plays
returns-in-Err-clause-plays g c = λ start kept reading. turn_unread start _ _ _ _ _ _ _ c.in-Err.ensures.bytes reading

pub returns-in-Ok-play_last-clause-plays : goal.returns-in-Ok-play_last-clause-plays
returns-in-Ok-play_last-clause-plays g c = λ start kept reading.
    let room : 0 < length c.read_some.new.chunk = search rules in
    let zero : c.in-Ok-eq0.field-0 ≡ 0 = search rules in
    turn_ended start _ _ _ reading.input (take c.in-Ok-eq0.field-0 c.read_some.new.chunk) (world_of g.S.Store.shows c.play_last.new.core) c.play_last.new.sessions _
    (ap (λ n. take n c.read_some.new.chunk) zero) reading.read c.in-Ok-eq0.ensures.bytes.0 (c.in-Ok-eq0.ensures.bytes.1 zero room)
    (c.in-Ok-play_last.ensures.plays start reading.input kept reading.playing)

pub returns-in-Err-play_last-clause-plays : goal.returns-in-Err-play_last-clause-plays
returns-in-Err-play_last-clause-plays g c = λ start kept reading.
    let room : 0 < length c.read_some.new.chunk = search rules in
    let zero : c.in-Ok-eq0.field-0 ≡ 0 = search rules in
    turn_stopped start _ _ _ reading.input (take c.in-Ok-eq0.field-0 c.read_some.new.chunk) (world_of g.S.Store.shows c.play_last.new.core) c.play_last.new.sessions _
    (ap (λ n. take n c.read_some.new.chunk) zero) reading.read c.in-Ok-eq0.ensures.bytes.0 (c.in-Ok-eq0.ensures.bytes.1 zero room)
    (c.in-Err-play_last.ensures.plays start reading.input kept reading.playing)

pub returns-in-Ok-play_bytes-clause-plays : goal.returns-in-Ok-play_bytes-clause-plays
returns-in-Ok-play_bytes-clause-plays g c = λ start kept reading.
    turn_on start _ _ _ reading.input _ (world_of g.S.Store.shows c.play_bytes.new.core) c.play_bytes.new.cutter c.play_bytes.new.sessions _ reading.read c.in-Ok.ensures.bytes.0
    (c.in-Ok-play_bytes.ensures.plays start reading.input kept reading.playing)

pub returns-in-Err-play_bytes-clause-plays : goal.returns-in-Err-play_bytes-clause-plays
returns-in-Err-play_bytes-clause-plays g c = λ start kept reading.
    turn_broken start _ _ _ reading.input _ (world_of g.S.Store.shows c.play_bytes.new.core) c.play_bytes.new.sessions _ reading.read c.in-Ok.ensures.bytes.0
    (c.in-Err-play_bytes.ensures.plays start reading.input kept reading.playing)

pub returns-in-Err-clause-flushed : goal.returns-in-Err-clause-flushed
returns-in-Err-clause-flushed g c = tt

pub returns-in-Err-clause-tried_again : goal.returns-in-Err-clause-tried_again
returns-in-Err-clause-tried_again g c = c.in-Err.ensures.tried_again

pub returns-in-Err-clause-room : goal.returns-in-Err-clause-room
returns-in-Err-clause-room g c = c.read_some.ensures.room

pub returns-in-Err-clause-kept : goal.returns-in-Err-clause-kept
returns-in-Err-clause-kept g c = λ rules are kept. kept

pub returns-in-Err-clause-held : goal.returns-in-Err-clause-held
returns-in-Err-clause-held g c = λ held. held

pub returns-in-Err-clause-counts : goal.returns-in-Err-clause-counts
returns-in-Err-clause-counts g c = le_refl _

pub returns-in-Ok-play_last-clause-flushed : goal.returns-in-Ok-play_last-clause-flushed
returns-in-Ok-play_last-clause-flushed g c = c.in-Ok-play_last.ensures.flushed

pub returns-in-Ok-play_last-clause-tried_again : goal.returns-in-Ok-play_last-clause-tried_again
returns-in-Ok-play_last-clause-tried_again g c = tt

pub returns-in-Ok-play_last-clause-room : goal.returns-in-Ok-play_last-clause-room
returns-in-Ok-play_last-clause-room g c = c.read_some.ensures.room

pub returns-in-Ok-play_last-clause-kept : goal.returns-in-Ok-play_last-clause-kept
returns-in-Ok-play_last-clause-kept g c = c.play_last.ensures.kept

pub returns-in-Ok-play_last-clause-held : goal.returns-in-Ok-play_last-clause-held
returns-in-Ok-play_last-clause-held g c = c.play_last.ensures.held

pub returns-in-Ok-play_last-clause-counts : goal.returns-in-Ok-play_last-clause-counts
returns-in-Ok-play_last-clause-counts g c = c.play_last.ensures.counts

pub returns-in-Err-play_last-clause-flushed : goal.returns-in-Err-play_last-clause-flushed
returns-in-Err-play_last-clause-flushed g c = tt

pub returns-in-Err-play_last-clause-tried_again : goal.returns-in-Err-play_last-clause-tried_again
returns-in-Err-play_last-clause-tried_again g c = c.in-Err-play_last.ensures.tried_again

pub returns-in-Err-play_last-clause-room : goal.returns-in-Err-play_last-clause-room
returns-in-Err-play_last-clause-room g c = c.read_some.ensures.room

pub returns-in-Err-play_last-clause-kept : goal.returns-in-Err-play_last-clause-kept
returns-in-Err-play_last-clause-kept g c = c.play_last.ensures.kept

pub returns-in-Err-play_last-clause-held : goal.returns-in-Err-play_last-clause-held
returns-in-Err-play_last-clause-held g c = c.play_last.ensures.held

pub returns-in-Err-play_last-clause-counts : goal.returns-in-Err-play_last-clause-counts
returns-in-Err-play_last-clause-counts g c = c.play_last.ensures.counts

pub returns-in-Ok-play_bytes-clause-flushed : goal.returns-in-Ok-play_bytes-clause-flushed
returns-in-Ok-play_bytes-clause-flushed g c = c.in-Ok-play_bytes.ensures.flushed

pub returns-in-Ok-play_bytes-clause-tried_again : goal.returns-in-Ok-play_bytes-clause-tried_again
returns-in-Ok-play_bytes-clause-tried_again g c = tt

pub returns-in-Ok-play_bytes-clause-room : goal.returns-in-Ok-play_bytes-clause-room
returns-in-Ok-play_bytes-clause-room g c = c.read_some.ensures.room

pub returns-in-Ok-play_bytes-clause-kept : goal.returns-in-Ok-play_bytes-clause-kept
returns-in-Ok-play_bytes-clause-kept g c = c.play_bytes.ensures.kept

pub returns-in-Ok-play_bytes-clause-held : goal.returns-in-Ok-play_bytes-clause-held
returns-in-Ok-play_bytes-clause-held g c = c.play_bytes.ensures.held

pub returns-in-Ok-play_bytes-clause-counts : goal.returns-in-Ok-play_bytes-clause-counts
returns-in-Ok-play_bytes-clause-counts g c = c.play_bytes.ensures.counts

pub returns-in-Err-play_bytes-clause-flushed : goal.returns-in-Err-play_bytes-clause-flushed
returns-in-Err-play_bytes-clause-flushed g c = tt

pub returns-in-Err-play_bytes-clause-tried_again : goal.returns-in-Err-play_bytes-clause-tried_again
returns-in-Err-play_bytes-clause-tried_again g c = c.in-Err-play_bytes.ensures.tried_again

pub returns-in-Err-play_bytes-clause-room : goal.returns-in-Err-play_bytes-clause-room
returns-in-Err-play_bytes-clause-room g c = c.read_some.ensures.room

pub returns-in-Err-play_bytes-clause-kept : goal.returns-in-Err-play_bytes-clause-kept
returns-in-Err-play_bytes-clause-kept g c = c.play_bytes.ensures.kept

pub returns-in-Err-play_bytes-clause-held : goal.returns-in-Err-play_bytes-clause-held
returns-in-Err-play_bytes-clause-held g c = c.play_bytes.ensures.held

pub returns-in-Err-play_bytes-clause-counts : goal.returns-in-Err-play_bytes-clause-counts
returns-in-Err-play_bytes-clause-counts g c = c.play_bytes.ensures.counts
