use Rattle.std.proofs.Common.{sym, subst}
use Rattle.sqlval.specs.declared.schema.Schema.{Schema}
use Rattle.denote.specs.SchemaOf.{IsSchemaOf}
use Rattle.store.specs.Contents.{database_of}
use Rattle.table_changes.proofs.Born.{table_made, free}
use Rattle.store.specs.Errors.{ChangingReaches}
use Rattle.transactions.proofs.Tests.{tells_reached}
use Rattle.constraints.proofs.Limits.{tells_none}
use Rattle.store.specs.Going.{Going}
use Rattle.table_changes.proofs.creating.create_table.Goals as goal

pub returns-in-Ok-clause-changes : goal.returns-in-Ok-clause-changes
returns-in-Ok-clause-changes g c = λ reading sound of.
    let lent = subst (λ (s : Schema). IsSchemaOf s (database_of (g.S.Store.shows c.args.store.now).working)) (sym c.schema.ensures) of in
    table_made reading (g.S.Store.shows c.args.store.now) (g.S.Store.shows c.begin.new.store) (g.S.Store.shows c.create_table.new.self) c.in_ok-declared.declared c.args.table
    c.in_default-begin.ensures.shows (c.in-Ok.ensures.shows ((g.met.S.Store.goes_on_goes _ _ _ c.begin.ensures.goes).sound sound)) (free (g.S.Store.shows c.args.store.now) c.schema.result.now c.args.table.name lent c.in_default.ensures.none)
    c.in_ok-declared.ensures.name c.in_ok-declared.ensures.columns c.in_ok-declared.ensures.constraints c.in_ok-declared.ensures.indexes

pub returns-in-Err-clause-limits : goal.returns-in-Err-clause-limits
returns-in-Err-clause-limits g c = tells_none (ChangingReaches (g.S.Store.counted c.begin.new.store)) c.in-Err.refusal c.in-Err.ensures.limits

pub returns-in-Err-create_table-clause-limits : goal.returns-in-Err-create_table-clause-limits
returns-in-Err-create_table-clause-limits g c = tells_reached _ _ _ (ChangingReaches (g.S.Store.counted c.create_table.new.self)) c.in-Err-create_table.error _ c.refusal_of.ensures c.in-Err-create_table.ensures.refused

pub returns-in-Err-clause-goes : goal.returns-in-Err-clause-goes
returns-in-Err-clause-goes g c = g.met.S.Store.goes_on_trans _ _ _ Going.keeps Going.changes c.begin.ensures.goes (g.met.S.Store.goes_on_refl _ Going.changes)

pub returns-in-Ok-clause-goes : goal.returns-in-Ok-clause-goes
returns-in-Ok-clause-goes g c = g.met.S.Store.goes_on_trans _ _ _ Going.keeps Going.changes c.begin.ensures.goes c.create_table.ensures.goes

pub returns-in-Err-create_table-clause-goes : goal.returns-in-Err-create_table-clause-goes
returns-in-Err-create_table-clause-goes g c = g.met.S.Store.goes_on_trans _ _ _ Going.keeps Going.changes c.begin.ensures.goes c.create_table.ensures.goes
