use Rattle.std.proofs.Common.{refl, sym, subst}
use Rattle.sessions.specs.OfCore.{world_of}
use Rattle.scripts.proofs.Keeping.{kept_made}
use Rattle.transfers.specs.Transfers.{LoadsAlone}
use Rattle.scripts.specs.Settled.{IsKept}
use Rattle.transfers.proofs.Closed.{no_less_behind, no_more}
use Rattle.transfers.proofs.over_core.load_alone.Goals as goal

pub returns-in-Ok-clause-loads : goal.returns-in-Ok-clause-loads
returns-in-Ok-clause-loads g c = λ rules are kept.
    let begun = c.new_session.new.self in
    let kept_mid = kept_made g.S.Store.is_sound g.S.Store.shows rules c.in-Ok.session c.args.core.now begun (λ sound. c.in-Ok.ensures.makes sound) c.new_session.ensures.sound kept in
    LoadsAlone.loads c.in-Ok.session.number (world_of g.S.Store.shows begun) (c.in-Ok.ensures.makes kept.sound) (c.load.ensures.loads rules are kept_mid c.in-Ok.ensures.live.0)

pub returns-in-Ok-clause-kept : goal.returns-in-Ok-clause-kept
returns-in-Ok-clause-kept g c = λ rules are kept.
    c.load.ensures.kept rules are
    (kept_made g.S.Store.is_sound g.S.Store.shows rules c.in-Ok.session c.args.core.now c.new_session.new.self (λ sound. c.in-Ok.ensures.makes sound) c.new_session.ensures.sound kept)

pub returns-in-Err-clause-loads : goal.returns-in-Err-clause-loads
returns-in-Err-clause-loads g c = λ rules are kept. LoadsAlone.unmade c.in-Err.refusal (c.in-Err.ensures.makes kept.sound) refl

pub returns-in-Ok-clause-counts : goal.returns-in-Ok-clause-counts
returns-in-Ok-clause-counts g c = no_less_behind _ _ _ c.new_session.ensures.counts c.load.ensures.counts

pub returns-in-Err-clause-kept : goal.returns-in-Err-clause-kept
returns-in-Err-clause-kept g c = λ rules are kept. subst (λ core. IsKept g.S.Store.is_sound g.S.Store.shows rules.check core) (sym c.in-Err.ensures.refused.1) kept

pub returns-in-Err-clause-counts : goal.returns-in-Err-clause-counts
returns-in-Err-clause-counts g c = no_more _ _ c.new_session.ensures.counts
