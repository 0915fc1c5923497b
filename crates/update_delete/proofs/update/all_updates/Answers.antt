use Rattle.std.proofs.Common.{◌∙◌, refl, sym, ap, subst, List, filter, Option}
use Rattle.std.proofs.lemmas.Result.{IfOk-weaker, IfErr-weaker}
use Rattle.typing.specs.declared.statement.Change.TheVariants as does
use Rattle.sqlval.specs.Value.{Row}
use Rattle.session_definitions.specs.Refusals.{IsReserved}
use Rattle.constraints.specs.Changed.{RefusesChange}
use Rattle.update_delete.specs.Kept.{Keeps, KeepAll}
use Rattle.std.specs.FinMap.{get}
use Rattle.denote.specs.Database.{checks_of, rows_in, table_of}
use Rattle.store.specs.Contents.{database_of, rows_of}
use Rattle.store.specs.Indexes.{entries_of}
use Rattle.query_answers.specs.Lent.{rows_lent}
use Rattle.constraints.proofs.Violations.{table_read}
use Rattle.update_delete.specs.declared.planned.Planned.{Planned}
use Rattle.update_delete.specs.Plans.{IsPlanned}
use Rattle.update_delete.specs.RowChanges.{rows_gone}
use Rattle.update_delete.proofs.Sparse.{rows-filtered}
use Rattle.update_delete.proofs.Coming.{few-in}
use Rattle.update_delete.proofs.Planning.{no_update, planned-of, update_harmless, update_stopped, is_no_device}
use Rattle.transactions.specs.Refused.{TellsNoLimit}
use Rattle.constraints.proofs.Limits.{stop_tells}
use Rattle.update_delete.proofs.update.all_updates.Goals as goal

pub returns-in_default-clause-planned : goal.returns-in_default-clause-planned
returns-in_default-clause-planned g c = λ reading k of decided checks made agree entries. no_update reading k c.args.schema.now c.args.update.now of c.in_default.ensures.none

pub returns-in-Ok-are_harmless-clause-planned : goal.returns-in-Ok-are_harmless-clause-planned
returns-in-Ok-are_harmless-clause-planned g c = IfOk-weaker c.planned_for.result _ _
    (λ planned is reading k of decided checks made agree entries.
    let u = c.args.update.now in
    let d = c.in-Some.table.now in
    let whole = rows_of (entries_of (get k u.table)) in
    let table = table_of d whole in
    let there = table_read k c.args.schema.now u.table d whole of c.in-Some.ensures.there c.in-Some.ensures.named refl in
    let passing = entries.are.rows ∙ rows-filtered entries.test (entries_of (get k u.table)) in
    let given = (c.in-Ok.ensures.gives (rows_in (database_of k)) (checks_of reading u.table table) u whole entries.test (c.as_slice.ensures ∙ passing)
    (entries.others (rows_lent c.args.lent.now.tables)) agree made (checks table there)).ok in
    planned-of (λ (p : Option Planned). IsPlanned reading k (does.Update u) u.table p) c.args.found.numbers c.args.found.rows c.in-Ok.changes c.in-Ok-are_harmless.harmless planned is
    (update_harmless reading k u table there
    (record { numbers = c.args.found.numbers; changes = c.in-Ok.changes; gone = rows_gone c.args.found.rows c.in-Ok.changes; harmless = c.in-Ok-are_harmless.harmless })
    entries.test entries.are.numbers given.0 given.1 given.2 (few-in c.in-Ok.changes c.as_slice.result.now (filter entries.test whole) c.in-Ok.ensures.as_many (c.as_slice.ensures ∙ passing))
    (ap (λ (rows : List Row). rows_gone rows c.in-Ok.changes) passing)
    (λ sure. subst (λ (rows : List Row). KeepAll (Keeps reading u.table table d.constraints) rows c.in-Ok.changes) passing
    (c.in-Ok-are_harmless.ensures.sure reading u.table whole (decided table there) sure))))
    c.planned_for.ensures.is

pub returns-in-Ok-are_harmless-clause-refused : goal.returns-in-Ok-are_harmless-clause-refused
returns-in-Ok-are_harmless-clause-refused g c = IfErr-weaker c.planned_for.result _ _
    (λ refusal memory reading k of checks made agree entries. RefusesChange.withheld (subst IsReserved (sym memory) tt)) c.planned_for.ensures.refused

pub returns-in-Ok-are_harmless-clause-limits : goal.returns-in-Ok-are_harmless-clause-limits
returns-in-Ok-are_harmless-clause-limits g c = IfErr-weaker c.planned_for.result _ _ (λ refusal memory. subst TellsNoLimit (sym memory) tt) c.planned_for.ensures.refused

pub returns-in-Ok-are_harmless-clause-device : goal.returns-in-Ok-are_harmless-clause-device
returns-in-Ok-are_harmless-clause-device g c = IfErr-weaker c.planned_for.result _ _ (λ refusal memory e. absurd (cc (e, memory))) c.planned_for.ensures.refused

pub returns-in-Err-are_harmless-clause-refused : goal.returns-in-Err-are_harmless-clause-refused
returns-in-Err-are_harmless-clause-refused g c = λ reading k of checks made agree entries. RefusesChange.withheld (subst IsReserved (sym c.in-Err-are_harmless.ensures.refused) tt)

pub returns-in-Err-are_harmless-clause-device : goal.returns-in-Err-are_harmless-clause-device
returns-in-Err-are_harmless-clause-device g c = λ e. let memory = c.in-Err-are_harmless.ensures.refused in absurd (cc (e, memory))

pub returns-in-Err-clause-refused : goal.returns-in-Err-clause-refused
returns-in-Err-clause-refused g c = λ reading k of checks made agree entries.
    let u = c.args.update.now in
    let whole = rows_of (entries_of (get k u.table)) in
    let table = table_of c.in-Some.table.now whole in
    let there = table_read k c.args.schema.now u.table c.in-Some.table.now whole of c.in-Some.ensures.there c.in-Some.ensures.named refl in
    let passing = c.as_slice.ensures ∙ entries.are.rows ∙ rows-filtered entries.test (entries_of (get k u.table)) in
    let given = (c.in-Err.ensures.gives (rows_in (database_of k)) (checks_of reading u.table table) u whole entries.test passing (entries.others (rows_lent c.args.lent.now.tables)) agree made (checks table there)).err in
    rw c.refusal_of_stop.ensures (update_stopped reading k u table there c.in-Err.stop given)

pub returns-in-Err-clause-device : goal.returns-in-Err-clause-device
returns-in-Err-clause-device g c = rw c.refusal_of_stop.ensures (is_no_device c.in-Err.stop)

pub returns-in-Err-clause-limits : goal.returns-in-Err-clause-limits
returns-in-Err-clause-limits g c = stop_tells c.in-Err.stop _ c.refusal_of_stop.ensures

pub returns-in-Err-are_harmless-clause-limits : goal.returns-in-Err-are_harmless-clause-limits
returns-in-Err-are_harmless-clause-limits g c = subst TellsNoLimit (sym c.in-Err-are_harmless.ensures.refused) tt
