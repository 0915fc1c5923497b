use Rattle.table_changes.proofs.Dropped.{table_dropped}
use Rattle.store.specs.Errors.{ChangingReaches}
use Rattle.transactions.proofs.Tests.{tells_reached}
use Rattle.constraints.proofs.Limits.{tells_none}
use Rattle.store.specs.Going.{Going}
use Rattle.table_changes.proofs.dropping.drop_table.Goals as goal

pub returns-in-Ok-clause-changes : goal.returns-in-Ok-clause-changes
returns-in-Ok-clause-changes g c = λ reading sound.
    table_dropped reading (g.S.Store.shows c.args.store.now) (g.S.Store.shows c.begin.new.store) (g.S.Store.shows c.drop_table.new.self) c.args.name.now
    c.in_default.ensures.shows (c.in-Ok.ensures.shows ((g.met.S.Store.goes_on_goes _ _ _ c.begin.ensures.goes).sound sound))

pub returns-in-Err-clause-limits : goal.returns-in-Err-clause-limits
returns-in-Err-clause-limits g c = tells_none (ChangingReaches (g.S.Store.counted c.begin.new.store)) c.in-Err.refusal c.in-Err.ensures.limits

pub returns-in-Err-drop_table-clause-limits : goal.returns-in-Err-drop_table-clause-limits
returns-in-Err-drop_table-clause-limits g c = tells_reached _ _ _ (ChangingReaches (g.S.Store.counted c.drop_table.new.self)) c.in-Err-drop_table.error _ c.refusal_of.ensures c.in-Err-drop_table.ensures.refused

pub returns-in-Err-clause-goes : goal.returns-in-Err-clause-goes
returns-in-Err-clause-goes g c = g.met.S.Store.goes_on_trans _ _ _ Going.keeps Going.changes c.begin.ensures.goes (g.met.S.Store.goes_on_refl _ Going.changes)

pub returns-in-Ok-clause-goes : goal.returns-in-Ok-clause-goes
returns-in-Ok-clause-goes g c = g.met.S.Store.goes_on_trans _ _ _ Going.keeps Going.changes c.begin.ensures.goes c.drop_table.ensures.goes

pub returns-in-Err-drop_table-clause-goes : goal.returns-in-Err-drop_table-clause-goes
returns-in-Err-drop_table-clause-goes g c = g.met.S.Store.goes_on_trans _ _ _ Going.keeps Going.changes c.begin.ensures.goes c.drop_table.ensures.goes
