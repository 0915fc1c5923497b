use Rattle.std.proofs.Common.{◌≡◌, true, sym, ap, subst, ◌∙◌, arith, refl, le_refl}
use Rattle.session_definitions.specs.World.{World, is_live}
use Rattle.session_laws.specs.Sound.{IsGoodWorld}
use Rattle.sessions.specs.OfCore.{world_of}
use Rattle.csvio.specs.Formed.{DumpsFormed}
use Rattle.csvio.proofs.DumpedForms.{dumped_form, rowless_form, undumped_form}
use Rattle.csvio.proofs.formed_dumping.dump_formed.Goals as goal

pub returns-in-Err-clause-dumps : goal.returns-in-Err-clause-dumps
returns-in-Err-clause-dumps g c = λ rules are kept live.
    undumped_form rules c.args.form (world_of g.S.Store.shows c.args.core.now) c.args.session.number c.args.table.now (g.W.Write.contents c.args.writer.now) c.in-Err.refusal c.in-Err.ensures.refused

pub returns-in-Ok-rows_of-clause-dumps : goal.returns-in-Ok-rows_of-clause-dumps
returns-in-Ok-rows_of-clause-dumps g c = λ rules are kept live.
    let shows = g.S.Store.shows in
    let n = c.args.session.number in
    let name = c.in-Ok.name in
    let held = g.W.Write.contents c.args.writer.now in
    let holds = g.W.Write.contents c.write_seen.new.writer in
    let mid = world_of shows c.ask_all.new.core in
    let kept_mid = c.ask_all.ensures.kept rules are kept in
    let live_mid : is_live mid n ≡ true = c.ask_all.ensures.live n ∙ live in
    subst (λ (w : World). DumpsFormed rules c.args.form (world_of shows c.args.core.now) n c.args.table.now held holds c.write_seen.result w) (sym c.write_seen.ensures.world)
    (dumped_form rules c.args.form (world_of shows c.args.core.now) n c.args.table.now held name c.in-Ok.ensures.gives c.ask_all.result mid (c.ask_all.ensures.asks rules are kept live)
    c.in-Ok-rows_of.rows c.as_slice.result.now holds c.write_seen.result c.in-Ok-rows_of.ensures.rows c.as_slice.ensures (c.write_seen.ensures.writes kept_mid.sound live_mid))

pub returns-in-Ok-rows_of-clause-kept : goal.returns-in-Ok-rows_of-clause-kept
returns-in-Ok-rows_of-clause-kept g c = λ rules are kept.
    let kept_mid = c.ask_all.ensures.kept rules are kept in
    record { sound = c.write_seen.ensures.sound kept_mid.sound; good = subst (λ (w : World). IsGoodWorld rules.check w) (sym c.write_seen.ensures.world) kept_mid.good }

pub returns-in-Ok-rows_of-clause-live : goal.returns-in-Ok-rows_of-clause-live
returns-in-Ok-rows_of-clause-live g c = λ s. ap (λ (w : World). is_live w s) c.write_seen.ensures.world ∙ c.ask_all.ensures.live s

pub returns-in-Ok-rows_of-clause-counts : goal.returns-in-Ok-rows_of-clause-counts
returns-in-Ok-rows_of-clause-counts g c = omega (arith, c.ask_all.ensures.counts, c.write_seen.ensures.counts)

pub returns-clause-dumps : goal.returns-clause-dumps
returns-clause-dumps g c = λ rules are kept live.
    rowless_form rules c.args.form (world_of g.S.Store.shows c.args.core.now) c.args.session.number c.args.table.now (g.W.Write.contents c.args.writer.now)
    c.in-Ok.name c.in-Ok.ensures.gives c.ask_all.result (world_of g.S.Store.shows c.ask_all.new.core) (c.ask_all.ensures.asks rules are kept live)
    c.in-Err-rows_of.reply c.in-Err-rows_of.ensures.other.0 c.in-Err-rows_of.ensures.other.1

pub returns-in-Err-clause-kept : goal.returns-in-Err-clause-kept
returns-in-Err-clause-kept g c = λ rules are kept. kept

pub returns-in-Err-clause-live : goal.returns-in-Err-clause-live
returns-in-Err-clause-live g c = λ s. refl

pub returns-in-Err-clause-counts : goal.returns-in-Err-clause-counts
returns-in-Err-clause-counts g c = le_refl _

pub returns-clause-kept : goal.returns-clause-kept
returns-clause-kept g c = c.ask_all.ensures.kept

pub returns-clause-live : goal.returns-clause-live
returns-clause-live g c = c.ask_all.ensures.live

pub returns-clause-counts : goal.returns-clause-counts
returns-clause-counts g c = c.ask_all.ensures.counts
