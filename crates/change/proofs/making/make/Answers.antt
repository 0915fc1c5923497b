use Rattle.std.proofs.lemmas.Result.{IfOk-weaker, IfErr-weaker}
use Rattle.typing.specs.declared.statement.Change.TheVariants as does
use Rattle.constraints.specs.Changed.{RefusesChange}
use Rattle.change.proofs.Accepted.{accepted_of}
use Rattle.change.proofs.making.make.Goals as goal

pub returns-in-CreateTable-clause-changes : goal.returns-in-CreateTable-clause-changes
returns-in-CreateTable-clause-changes g c = rw c.in-CreateTable.is (IfOk-weaker c.create_table.result _ _
    (λ reply h reading is_reading sound of good. accepted_of reading (g.S.Store.shows c.args.store.now) (does.CreateTable c.in-CreateTable.table) reply (g.S.Store.shows c.create_table.new.store) (h reading sound of)) c.create_table.ensures.changes)

pub returns-in-CreateTable-clause-refused : goal.returns-in-CreateTable-clause-refused
returns-in-CreateTable-clause-refused g c = rw c.in-CreateTable.is (IfErr-weaker c.create_table.result _ _ (λ refusal h reading is_reading sound of good. RefusesChange.withheld (h sound)) c.create_table.ensures.refused)

pub returns-in-DropTable-clause-changes : goal.returns-in-DropTable-clause-changes
returns-in-DropTable-clause-changes g c = rw c.in-DropTable.is (IfOk-weaker c.drop_table.result _ _
    (λ reply h reading is_reading sound of good. accepted_of reading (g.S.Store.shows c.args.store.now) (does.DropTable c.in-DropTable.name) reply (g.S.Store.shows c.drop_table.new.store) (h reading sound)) c.drop_table.ensures.changes)

pub returns-in-DropTable-clause-refused : goal.returns-in-DropTable-clause-refused
returns-in-DropTable-clause-refused g c = rw c.in-DropTable.is (IfErr-weaker c.drop_table.result _ _ (λ refusal h reading is_reading sound of good. RefusesChange.withheld (h sound)) c.drop_table.ensures.refused)

pub returns-in-CreateIndex-clause-changes : goal.returns-in-CreateIndex-clause-changes
returns-in-CreateIndex-clause-changes g c = rw c.in-CreateIndex.is (IfOk-weaker c.create_index.result _ _
    (λ reply h reading is_reading sound of good. accepted_of reading (g.S.Store.shows c.args.store.now) (does.CreateIndex c.in-CreateIndex.index) reply (g.S.Store.shows c.create_index.new.store) (h reading sound of)) c.create_index.ensures.changes)

pub returns-in-CreateIndex-clause-refused : goal.returns-in-CreateIndex-clause-refused
returns-in-CreateIndex-clause-refused g c = rw c.in-CreateIndex.is (IfErr-weaker c.create_index.result _ _ (λ refusal h reading is_reading sound of good. h reading sound of) c.create_index.ensures.refused)

pub returns-in-DropIndex-clause-changes : goal.returns-in-DropIndex-clause-changes
returns-in-DropIndex-clause-changes g c = rw c.in-DropIndex.is (IfOk-weaker c.drop_index.result _ _
    (λ reply h reading is_reading sound of good. accepted_of reading (g.S.Store.shows c.args.store.now) (does.DropIndex c.in-DropIndex.name) reply (g.S.Store.shows c.drop_index.new.store) (h reading sound)) c.drop_index.ensures.changes)

pub returns-in-DropIndex-clause-refused : goal.returns-in-DropIndex-clause-refused
returns-in-DropIndex-clause-refused g c = rw c.in-DropIndex.is (IfErr-weaker c.drop_index.result _ _ (λ refusal h reading is_reading sound of good. RefusesChange.withheld (h sound)) c.drop_index.ensures.refused)

pub returns-in-Insert-clause-changes : goal.returns-in-Insert-clause-changes
returns-in-Insert-clause-changes g c = rw c.in-Insert.is c.insert.ensures.changes

pub returns-in-Insert-clause-refused : goal.returns-in-Insert-clause-refused
returns-in-Insert-clause-refused g c = rw c.in-Insert.is c.insert.ensures.refused

pub returns-in-Update-clause-changes : goal.returns-in-Update-clause-changes
returns-in-Update-clause-changes g c = rw c.in-Update.is (IfOk-weaker c.update.result _ _
    (λ reply h reading is_reading sound of good. accepted_of reading (g.S.Store.shows c.args.store.now) (does.Update c.in-Update.updated) reply (g.S.Store.shows c.update.new.store) (h reading is_reading sound of good)) c.update.ensures.changes)

pub returns-in-Update-clause-refused : goal.returns-in-Update-clause-refused
returns-in-Update-clause-refused g c = rw c.in-Update.is c.update.ensures.refused

pub returns-in-Delete-clause-changes : goal.returns-in-Delete-clause-changes
returns-in-Delete-clause-changes g c = rw c.in-Delete.is (IfOk-weaker c.delete.result _ _
    (λ reply h reading is_reading sound of good. accepted_of reading (g.S.Store.shows c.args.store.now) (does.Delete c.in-Delete.deleted) reply (g.S.Store.shows c.delete.new.store) (h reading is_reading sound of good)) c.delete.ensures.changes)

pub returns-in-Delete-clause-refused : goal.returns-in-Delete-clause-refused
returns-in-Delete-clause-refused g c = rw c.in-Delete.is c.delete.ensures.refused

pub returns-in-CreateTable-clause-limits : goal.returns-in-CreateTable-clause-limits
returns-in-CreateTable-clause-limits g c = rw c.in-CreateTable.is c.create_table.ensures.limits

pub returns-in-DropTable-clause-limits : goal.returns-in-DropTable-clause-limits
returns-in-DropTable-clause-limits g c = rw c.in-DropTable.is c.drop_table.ensures.limits

pub returns-in-CreateIndex-clause-limits : goal.returns-in-CreateIndex-clause-limits
returns-in-CreateIndex-clause-limits g c = rw c.in-CreateIndex.is c.create_index.ensures.limits

pub returns-in-DropIndex-clause-limits : goal.returns-in-DropIndex-clause-limits
returns-in-DropIndex-clause-limits g c = rw c.in-DropIndex.is c.drop_index.ensures.limits

pub returns-in-Insert-clause-limits : goal.returns-in-Insert-clause-limits
returns-in-Insert-clause-limits g c = rw c.in-Insert.is c.insert.ensures.limits

pub returns-in-Update-clause-limits : goal.returns-in-Update-clause-limits
returns-in-Update-clause-limits g c = rw c.in-Update.is c.update.ensures.limits

pub returns-in-Delete-clause-limits : goal.returns-in-Delete-clause-limits
returns-in-Delete-clause-limits g c = rw c.in-Delete.is c.delete.ensures.limits

pub returns-in-CreateTable-clause-accepted : goal.returns-in-CreateTable-clause-accepted
returns-in-CreateTable-clause-accepted g c = c.create_table.ensures.accepted

pub returns-in-CreateTable-clause-device : goal.returns-in-CreateTable-clause-device
returns-in-CreateTable-clause-device g c = c.create_table.ensures.device

pub returns-in-CreateTable-clause-same : goal.returns-in-CreateTable-clause-same
returns-in-CreateTable-clause-same g c = c.create_table.ensures.same

pub returns-in-CreateTable-clause-goes : goal.returns-in-CreateTable-clause-goes
returns-in-CreateTable-clause-goes g c = c.create_table.ensures.goes

pub returns-in-DropTable-clause-accepted : goal.returns-in-DropTable-clause-accepted
returns-in-DropTable-clause-accepted g c = c.drop_table.ensures.accepted

pub returns-in-DropTable-clause-device : goal.returns-in-DropTable-clause-device
returns-in-DropTable-clause-device g c = c.drop_table.ensures.device

pub returns-in-DropTable-clause-same : goal.returns-in-DropTable-clause-same
returns-in-DropTable-clause-same g c = c.drop_table.ensures.same

pub returns-in-DropTable-clause-goes : goal.returns-in-DropTable-clause-goes
returns-in-DropTable-clause-goes g c = c.drop_table.ensures.goes

pub returns-in-CreateIndex-clause-accepted : goal.returns-in-CreateIndex-clause-accepted
returns-in-CreateIndex-clause-accepted g c = c.create_index.ensures.accepted

pub returns-in-CreateIndex-clause-device : goal.returns-in-CreateIndex-clause-device
returns-in-CreateIndex-clause-device g c = c.create_index.ensures.device

pub returns-in-CreateIndex-clause-same : goal.returns-in-CreateIndex-clause-same
returns-in-CreateIndex-clause-same g c = c.create_index.ensures.same

pub returns-in-CreateIndex-clause-goes : goal.returns-in-CreateIndex-clause-goes
returns-in-CreateIndex-clause-goes g c = c.create_index.ensures.goes

pub returns-in-DropIndex-clause-accepted : goal.returns-in-DropIndex-clause-accepted
returns-in-DropIndex-clause-accepted g c = c.drop_index.ensures.accepted

pub returns-in-DropIndex-clause-device : goal.returns-in-DropIndex-clause-device
returns-in-DropIndex-clause-device g c = c.drop_index.ensures.device

pub returns-in-DropIndex-clause-same : goal.returns-in-DropIndex-clause-same
returns-in-DropIndex-clause-same g c = c.drop_index.ensures.same

pub returns-in-DropIndex-clause-goes : goal.returns-in-DropIndex-clause-goes
returns-in-DropIndex-clause-goes g c = c.drop_index.ensures.goes

pub returns-in-Insert-clause-accepted : goal.returns-in-Insert-clause-accepted
returns-in-Insert-clause-accepted g c = c.insert.ensures.accepted

pub returns-in-Insert-clause-device : goal.returns-in-Insert-clause-device
returns-in-Insert-clause-device g c = c.insert.ensures.device

pub returns-in-Insert-clause-same : goal.returns-in-Insert-clause-same
returns-in-Insert-clause-same g c = c.insert.ensures.same

pub returns-in-Insert-clause-goes : goal.returns-in-Insert-clause-goes
returns-in-Insert-clause-goes g c = c.insert.ensures.goes

pub returns-in-Update-clause-accepted : goal.returns-in-Update-clause-accepted
returns-in-Update-clause-accepted g c = c.update.ensures.accepted

pub returns-in-Update-clause-device : goal.returns-in-Update-clause-device
returns-in-Update-clause-device g c = c.update.ensures.device

pub returns-in-Update-clause-same : goal.returns-in-Update-clause-same
returns-in-Update-clause-same g c = c.update.ensures.same

pub returns-in-Update-clause-goes : goal.returns-in-Update-clause-goes
returns-in-Update-clause-goes g c = c.update.ensures.goes

pub returns-in-Delete-clause-accepted : goal.returns-in-Delete-clause-accepted
returns-in-Delete-clause-accepted g c = c.delete.ensures.accepted

pub returns-in-Delete-clause-device : goal.returns-in-Delete-clause-device
returns-in-Delete-clause-device g c = c.delete.ensures.device

pub returns-in-Delete-clause-same : goal.returns-in-Delete-clause-same
returns-in-Delete-clause-same g c = c.delete.ensures.same

pub returns-in-Delete-clause-goes : goal.returns-in-Delete-clause-goes
returns-in-Delete-clause-goes g c = c.delete.ensures.goes
