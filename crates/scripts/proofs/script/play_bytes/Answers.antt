use Rattle.std.proofs.Common.{rules, subst, ◌<◌, ◌≤◌, ◌+◌, ◌++◌, ℕ, List, [], ◌∷◌, drop, get_or, length}
use Rattle.std.proofs.Math.Nat.{le_trans}
use Rattle.std.proofs.lemmas.List.{take_all}
use Rattle.script_pieces.specs.Pieces.{AreEnded}
use Rattle.sessions.specs.OfCore.{world_of}
use Rattle.scripts.specs.Settled.{store_of}
use Rattle.scripts.specs.Playing.{HasStopped, IsPlaying}
use Rattle.scripts.proofs.Carried.{goes_on, ends_piece, stops_at, passed_on, one_more, the_rest}
use Rattle.scripts.proofs.Outcomes.{kept_on}
use Rattle.scripts.proofs.script.play_bytes.Goals.{in-Some+in-Ok, in_default}
use Rattle.scripts.proofs.script.play_bytes.Goals as goal

pub returns-in-Err-clause-plays : goal.returns-in-Err-clause-plays
returns-in-Err-clause-plays g c = λ start input kept p.
    let i = c.loop-byte.byte-index in
    let bytes = c.args.bytes.now in
    let within : i < length bytes = search rules in
    let playing = c.loop-byte.invariant.plays start input kept p in
    let asks = (c.in-Some.ensures.ends playing.cut.bytes playing.cut.has_read).1.asks in
    let carried = c.in-Err.ensures.carries_out start.known (playing.cut.bytes ++ get_or bytes i 0 ∷ [])
    (kept_on g.S.Store.is_sound g.S.Store.shows start.known c.args.core.now c.loop-byte.core c.loop-byte.invariant.kept kept) asks in
    subst (λ (l : List ℕ). HasStopped start (AreEnded l) (world_of g.S.Store.shows c.carry_out_piece.new.core) c.carry_out_piece.new.sessions (g.W.Write.contents c.carry_out_piece.new.writer)
    (g.S.Store.refused (store_of c.carry_out_piece.new.core)))
    (the_rest input bytes i within)
    (stops_at start _ (world_of g.S.Store.shows c.loop-byte.core) (world_of g.S.Store.shows c.carry_out_piece.new.core) c.loop-byte.cutter c.take.new.self c.loop-byte.sessions c.carry_out_piece.new.sessions
    _ _ _ _ (get_or bytes i 0) c.in-Some.request (drop (i + 1) bytes) playing c.in-Some.ensures.ends carried)

pub returns-in-Err-clause-kept : goal.returns-in-Err-clause-kept
returns-in-Err-clause-kept g c = λ r are h. c.carry_out_piece.ensures.kept r are (c.loop-byte.invariant.kept r are h)

pub returns-in-Err-clause-held : goal.returns-in-Err-clause-held
returns-in-Err-clause-held g c = λ held. c.carry_out_piece.ensures.held (c.loop-byte.invariant.held held)

pub loop-byte-preserved : goal.loop-byte-preserved
loop-byte-preserved g c =
    let i = c.loop-byte.byte-index in
    let bytes = c.args.bytes.now in
    let within : i < length bytes = search rules in
    elim c.match-take.branch [
      | in-Some+in-Ok w ↦ rw (w.core-is, w.sessions-is, w.cutter-is, w.writer-is) (record {
        plays = λ start input kept p.
            let playing = c.loop-byte.invariant.plays start input kept p in
            let asks = (w.in-Some.ensures.ends playing.cut.bytes playing.cut.has_read).1.asks in
            let carried = w.in-Ok.ensures.carries_out start.known (playing.cut.bytes ++ get_or bytes i 0 ∷ [])
            (kept_on g.S.Store.is_sound g.S.Store.shows start.known c.args.core.now c.loop-byte.core c.loop-byte.invariant.kept kept) asks in
            subst (λ (l : List ℕ). IsPlaying start l (world_of g.S.Store.shows w.carry_out_piece.new.core) w.clear.new.self w.carry_out_piece.new.sessions
            (g.W.Write.contents w.carry_out_piece.new.writer) (g.S.Store.refused (store_of w.carry_out_piece.new.core)))
            (one_more input bytes i within)
            (ends_piece start _ (world_of g.S.Store.shows c.loop-byte.core) (world_of g.S.Store.shows w.carry_out_piece.new.core) c.loop-byte.cutter c.take.new.self w.clear.new.self
            c.loop-byte.sessions w.carry_out_piece.new.sessions _ _ _ _ (get_or bytes i 0) w.in-Some.request playing w.in-Some.ensures.ends w.clear.ensures carried);
        kept = λ r are h. w.carry_out_piece.ensures.kept r are (c.loop-byte.invariant.kept r are h);
        held = λ held. w.carry_out_piece.ensures.held (c.loop-byte.invariant.held held);
        counts = le_trans c.loop-byte.invariant.counts w.carry_out_piece.ensures.counts;
      })
      | in_default w ↦ rw (w.core-is, w.sessions-is, w.cutter-is, w.writer-is) (record {
        plays = λ start input kept p.
            let playing = c.loop-byte.invariant.plays start input kept p in
            subst (λ (l : List ℕ). IsPlaying start l (world_of g.S.Store.shows c.loop-byte.core) c.take.new.self c.loop-byte.sessions (g.W.Write.contents c.loop-byte.writer)
            (g.S.Store.refused (store_of c.loop-byte.core)))
            (one_more input bytes i within)
            (goes_on start _ (world_of g.S.Store.shows c.loop-byte.core) c.loop-byte.cutter c.take.new.self c.loop-byte.sessions _ _ (get_or bytes i 0) playing w.in_default.ensures.goes_on);
        kept = c.loop-byte.invariant.kept;
        held = c.loop-byte.invariant.held;
        counts = c.loop-byte.invariant.counts;
      })
    ]

pub returns-clause-plays : goal.returns-clause-plays
returns-clause-plays g c = λ start input kept p.
    let past : length c.args.bytes.now ≤ c.loop-byte.byte-index = search rules in
    let playing = subst (λ (l : List ℕ). IsPlaying start (input ++ l) (world_of g.S.Store.shows c.loop-byte.core) c.loop-byte.cutter c.loop-byte.sessions (g.W.Write.contents c.loop-byte.writer)
    (g.S.Store.refused (store_of c.loop-byte.core)))
    (take_all c.loop-byte.byte-index c.args.bytes.now past) (c.loop-byte.invariant.plays start input kept p) in
    passed_on start c.pass_on.result (input ++ c.args.bytes.now) (world_of g.S.Store.shows c.loop-byte.core) c.loop-byte.cutter c.loop-byte.sessions _ _ _ c.pass_on.ensures.bytes playing
