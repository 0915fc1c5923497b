use Rattle.table_changes.proofs.Dropped.{index_dropped}
use Rattle.store.specs.Errors.{ChangingReaches}
use Rattle.transactions.proofs.Tests.{tells_reached}
use Rattle.constraints.proofs.Limits.{tells_none}
use Rattle.store.specs.Going.{Going}
use Rattle.table_changes.proofs.dropping.drop_index.Goals as goal

pub returns-in-Ok-clause-changes : goal.returns-in-Ok-clause-changes
returns-in-Ok-clause-changes g c = λ reading sound.
    index_dropped reading (g.S.Store.shows c.args.store.now) (g.S.Store.shows c.begin.new.store) (g.S.Store.shows c.drop_index.new.self) c.args.name.now
    c.in_default.ensures.shows (c.in-Ok.ensures.shows ((g.met.S.Store.goes_on_goes _ _ _ c.begin.ensures.goes).sound sound))

pub returns-in-Err-clause-limits : goal.returns-in-Err-clause-limits
returns-in-Err-clause-limits g c = tells_none (ChangingReaches (g.S.Store.counted c.begin.new.store)) c.in-Err.refusal c.in-Err.ensures.limits

pub returns-in-Err-drop_index-clause-limits : goal.returns-in-Err-drop_index-clause-limits
returns-in-Err-drop_index-clause-limits g c = tells_reached _ _ _ (ChangingReaches (g.S.Store.counted c.drop_index.new.self)) c.in-Err-drop_index.error _ c.refusal_of.ensures c.in-Err-drop_index.ensures.refused

pub returns-in-Err-clause-goes : goal.returns-in-Err-clause-goes
returns-in-Err-clause-goes g c = g.met.S.Store.goes_on_trans _ _ _ Going.keeps Going.changes c.begin.ensures.goes (g.met.S.Store.goes_on_refl _ Going.changes)

pub returns-in-Ok-clause-goes : goal.returns-in-Ok-clause-goes
returns-in-Ok-clause-goes g c = g.met.S.Store.goes_on_trans _ _ _ Going.keeps Going.changes c.begin.ensures.goes c.drop_index.ensures.goes

pub returns-in-Err-drop_index-clause-goes : goal.returns-in-Err-drop_index-clause-goes
returns-in-Err-drop_index-clause-goes g c = g.met.S.Store.goes_on_trans _ _ _ Going.keeps Going.changes c.begin.ensures.goes c.drop_index.ensures.goes
