use Rattle.std.proofs.lemmas.Result.{IfOk-weaker, IfErr-weaker}
use Rattle.store.specs.Contents.{database_of}
use Rattle.sqlcore.proofs.RowsGiven.{inserts_given, refuses_given}
use Rattle.sqlcore.proofs.ToldLimits.{rows_tell}
use Rattle.sqlcore.proofs.sql.SqlChanges.insert.Goals as goal

pub returns-clause-changes : goal.returns-clause-changes
returns-clause-changes g c = IfOk-weaker c.insert_given.result _ _
    (λ reply h rules x are sound of good.
    inserts_given rules (g.S.Store.prepared c.args.store.now) c.args.table.now c.args.rows x (g.S.Store.shows c.args.store.now) reply (g.S.Store.shows c.insert_given.new.store) of (h rules.check are.checks sound of good))
    c.insert_given.ensures.changes

pub returns-clause-refused : goal.returns-clause-refused
returns-clause-refused g c = IfErr-weaker c.insert_given.result _ _
    (λ refusal h rules x are sound of good.
    refuses_given rules (g.S.Store.prepared c.args.store.now) c.args.table.now c.args.rows x (database_of (g.S.Store.shows c.args.store.now).working) of refusal (h rules.check are.checks sound of good))
    c.insert_given.ensures.refused

pub returns-clause-reached : goal.returns-clause-reached
returns-clause-reached g c = IfErr-weaker c.insert_given.result _ _
    (λ refusal h. rows_tell (g.S.Store.counted c.insert_given.new.store) (g.S.Store.is_sound c.args.store.now) (g.S.Store.prepared c.args.store.now) (g.S.Store.shows c.args.store.now).working c.args.table.now c.args.rows refusal h)
    c.insert_given.ensures.limits
