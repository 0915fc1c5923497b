use Rattle.std.proofs.Common.{refl, le_refl}
use Rattle.sessions.specs.OfCore.{world_of}
use Rattle.csvio.proofs.Dumped.{dumped, rowless, undumped}
use Rattle.csvio.proofs.dumping.dump.Goals as goal

pub returns-in-Err-clause-dumps : goal.returns-in-Err-clause-dumps
returns-in-Err-clause-dumps g c = λ rules are kept live.
    undumped rules (world_of g.S.Store.shows c.args.core.now) c.args.session.number c.args.table.now (g.W.Write.contents c.args.writer.now) c.in-Err.refusal c.in-Err.ensures.refused

pub returns-in-Ok-rows_of-clause-dumps : goal.returns-in-Ok-rows_of-clause-dumps
returns-in-Ok-rows_of-clause-dumps g c = λ rules are kept live.
    dumped rules (world_of g.S.Store.shows c.args.core.now) c.args.session.number c.args.table.now (g.W.Write.contents c.args.writer.now)
    c.in-Ok.name c.in-Ok.ensures.gives c.ask_all.result (world_of g.S.Store.shows c.ask_all.new.core) (c.ask_all.ensures.asks rules are kept live)
    c.in-Ok-rows_of.rows c.as_slice.result.now (g.W.Write.contents c.write_rows.new.writer) c.write_rows.result c.in-Ok-rows_of.ensures.rows c.as_slice.ensures c.write_rows.ensures.writes

pub returns-clause-dumps : goal.returns-clause-dumps
returns-clause-dumps g c = λ rules are kept live.
    rowless rules (world_of g.S.Store.shows c.args.core.now) c.args.session.number c.args.table.now (g.W.Write.contents c.args.writer.now)
    c.in-Ok.name c.in-Ok.ensures.gives c.ask_all.result (world_of g.S.Store.shows c.ask_all.new.core) (c.ask_all.ensures.asks rules are kept live)
    c.in-Err-rows_of.reply c.in-Err-rows_of.ensures.other.0 c.in-Err-rows_of.ensures.other.1

pub returns-in-Err-clause-kept : goal.returns-in-Err-clause-kept
returns-in-Err-clause-kept g c = λ rules are kept. kept

pub returns-in-Err-clause-live : goal.returns-in-Err-clause-live
returns-in-Err-clause-live g c = λ s. refl

pub returns-in-Err-clause-counts : goal.returns-in-Err-clause-counts
returns-in-Err-clause-counts g c = le_refl _

pub returns-in-Ok-rows_of-clause-kept : goal.returns-in-Ok-rows_of-clause-kept
returns-in-Ok-rows_of-clause-kept g c = c.ask_all.ensures.kept

pub returns-in-Ok-rows_of-clause-live : goal.returns-in-Ok-rows_of-clause-live
returns-in-Ok-rows_of-clause-live g c = c.ask_all.ensures.live

pub returns-in-Ok-rows_of-clause-counts : goal.returns-in-Ok-rows_of-clause-counts
returns-in-Ok-rows_of-clause-counts g c = c.ask_all.ensures.counts

pub returns-clause-kept : goal.returns-clause-kept
returns-clause-kept g c = c.ask_all.ensures.kept

pub returns-clause-live : goal.returns-clause-live
returns-clause-live g c = c.ask_all.ensures.live

pub returns-clause-counts : goal.returns-clause-counts
returns-clause-counts g c = c.ask_all.ensures.counts
