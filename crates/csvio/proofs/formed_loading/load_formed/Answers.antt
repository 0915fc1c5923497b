use Rattle.std.proofs.Common.{◌≡◌, true, refl, sym, ap, subst, ◌∙◌, arith}
use Rattle.session_definitions.specs.World.{World, is_live}
use Rattle.session_laws.specs.Sound.{IsGoodWorld}
use Rattle.sessions.specs.OfCore.{world_of}
use Rattle.scripts.specs.Settled.{IsKept}
use Rattle.csvio.specs.Formed.{LoadsFormed}
use Rattle.csvio.specs.Loading.{PutsIn}
use Rattle.csvio.proofs.formed_loading.load_formed.Goals as goal

pub returns-in-Ok-clause-loads : goal.returns-in-Ok-clause-loads
returns-in-Ok-clause-loads g c = λ rules are kept live.
    let shows = g.S.Store.shows in
    let mid = c.find_rows.new.core in
    let same : world_of shows mid ≡ world_of shows c.args.core.now = c.find_rows.ensures.world in
    let kept_mid : IsKept g.S.Store.is_sound shows rules.check mid =
    record { sound = c.find_rows.ensures.sound kept.sound; good = subst (λ (w : World). IsGoodWorld rules.check w) (sym same) kept.good } in
    let live_mid : is_live (world_of shows mid) c.args.session.number ≡ true = subst (λ (w : World). is_live w c.args.session.number ≡ true) (sym same) live in
    LoadsFormed.puts_in c.in-Ok.found.table c.in-Ok.found.rows (c.in-Ok.ensures.rows kept.sound live)
    (subst (λ (w : World). PutsIn rules w c.args.session.number c.in-Ok.found.table c.in-Ok.found.rows c.put_in.result (world_of shows c.put_in.new.core)) same
    (c.put_in.ensures.puts_in rules are kept_mid live_mid))

pub returns-in-Ok-clause-kept : goal.returns-in-Ok-clause-kept
returns-in-Ok-clause-kept g c = λ rules are kept.
    let same : world_of g.S.Store.shows c.find_rows.new.core ≡ world_of g.S.Store.shows c.args.core.now = c.find_rows.ensures.world in
    c.put_in.ensures.kept rules are
    (record { sound = c.find_rows.ensures.sound kept.sound; good = subst (λ (w : World). IsGoodWorld rules.check w) (sym same) kept.good })

pub returns-in-Ok-clause-live : goal.returns-in-Ok-clause-live
returns-in-Ok-clause-live g c = λ s. c.put_in.ensures.live s ∙ ap (λ (w : World). is_live w s) c.find_rows.ensures.world

pub returns-in-Ok-clause-counts : goal.returns-in-Ok-clause-counts
returns-in-Ok-clause-counts g c = omega (arith, c.find_rows.ensures.counts, c.put_in.ensures.counts)

pub returns-in-Err-clause-loads : goal.returns-in-Err-clause-loads
returns-in-Err-clause-loads g c = λ rules are kept live. LoadsFormed.unloaded c.in-Err.refusal (c.in-Err.ensures.refused kept.sound live) refl c.find_rows.ensures.world

pub returns-in-Err-clause-kept : goal.returns-in-Err-clause-kept
returns-in-Err-clause-kept g c = λ rules are kept.
    let same : world_of g.S.Store.shows c.find_rows.new.core ≡ world_of g.S.Store.shows c.args.core.now = c.find_rows.ensures.world in
    record { sound = c.find_rows.ensures.sound kept.sound; good = subst (λ (w : World). IsGoodWorld rules.check w) (sym same) kept.good }

pub returns-in-Err-clause-live : goal.returns-in-Err-clause-live
returns-in-Err-clause-live g c = λ s. ap (λ (w : World). is_live w s) c.find_rows.ensures.world

pub returns-in-Err-clause-counts : goal.returns-in-Err-clause-counts
returns-in-Err-clause-counts g c = c.find_rows.ensures.counts
