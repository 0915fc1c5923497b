use Rattle.std.proofs.Common.{◌≡◌, ◌∙◌, refl, sym, ap, subst, true, List, [], filter, Option}
use Rattle.std.proofs.lemmas.Result.{IfOk-weaker, IfErr-weaker}
use Rattle.std.specs.Prelude.{IfSome}
use Rattle.sqlval.specs.Value.{Row}
use Rattle.typing.specs.declared.statement.Change.TheVariants as does
use Rattle.session_definitions.specs.Refusals.{IsReserved}
use Rattle.transactions.specs.Refused.{TellsNoLimit}
use Rattle.constraints.specs.Changed.{RefusesChange}
use Rattle.std.specs.FinMap.{get}
use Rattle.denote.specs.Database.{rows_in, table_of}
use Rattle.store.specs.Contents.{database_of, rows_of}
use Rattle.store.specs.Indexes.{entries_of}
use Rattle.constraints.proofs.Violations.{table_read}
use Rattle.query_answers.specs.Lent.{rows_lent}
use Rattle.update_delete.proofs.Planning.{no_deletion, planned-of, deletion_harmless, deletion_stopped, is_no_device}
use Rattle.update_delete.specs.declared.planned.Planned.{Planned}
use Rattle.update_delete.specs.Plans.{IsPlanned}
use Rattle.update_delete.specs.RowChanges.{rows_gone, rows_new}
use Rattle.update_delete.proofs.Coming.{few-in}
use Rattle.update_delete.proofs.Sparse.{rows-filtered}
use Rattle.constraints.proofs.Limits.{stop_tells}
use Rattle.update_delete.proofs.delete.all_deletions.Goals as goal

pub returns-in_default-clause-planned : goal.returns-in_default-clause-planned
returns-in_default-clause-planned c = λ reading k of made agree entries. no_deletion reading k c.args.schema.now c.args.delete.now of c.in_default.ensures.none

pub returns-in-Ok-clause-planned : goal.returns-in-Ok-clause-planned
returns-in-Ok-clause-planned c = IfOk-weaker c.planned_for.result _ _
    (λ planned is reading k of made agree entries.
    let d = c.args.delete.now in
    let whole = rows_of (entries_of (get k d.table)) in
    let table = table_of c.in-Some.field-0.now whole in
    let there = table_read k c.args.schema.now d.table c.in-Some.field-0.now whole of c.in-Some.ensures.there c.in-Some.ensures.named refl in
    let passing = entries.are.rows ∙ rows-filtered entries.test (entries_of (get k d.table)) in
    let given = (c.in-Ok.ensures.gives (rows_in (database_of k)) table d entries.test (c.as_slice.ensures ∙ passing) (entries.others (rows_lent c.args.lent.now.tables)) agree made).ok in
    planned-of (λ (p : Option Planned). IsPlanned reading k (does.Delete d) d.table p) c.args.found.numbers c.args.found.rows c.in-Ok.changes true planned is
    (deletion_harmless reading k d table there (record { numbers = c.args.found.numbers; changes = c.in-Ok.changes; gone = rows_gone c.args.found.rows c.in-Ok.changes; harmless = true })
    entries.test refl entries.are.numbers given.0 given.1 given.2
    (few-in c.in-Ok.changes c.as_slice.result.now (filter entries.test whole) c.in-Ok.ensures.as_many (c.as_slice.ensures ∙ passing))
    (ap (λ (rows : List Row). rows_gone rows c.in-Ok.changes) passing)))
    c.planned_for.ensures.is

pub returns-in-Ok-clause-spares : goal.returns-in-Ok-clause-spares
returns-in-Ok-clause-spares c = IfOk-weaker c.planned_for.result _ _
    (λ planned is. planned-of (λ (p : Option Planned). IfSome p (λ (q : Planned). rows_new q.changes ≡ [])) c.args.found.numbers c.args.found.rows c.in-Ok.changes true planned is c.in-Ok.ensures.spares)
    c.planned_for.ensures.is

pub returns-in-Ok-clause-refused : goal.returns-in-Ok-clause-refused
returns-in-Ok-clause-refused c = IfErr-weaker c.planned_for.result _ _
    (λ refusal memory reading k of made agree entries. RefusesChange.withheld (subst IsReserved (sym memory) tt)) c.planned_for.ensures.refused

pub returns-in-Ok-clause-limits : goal.returns-in-Ok-clause-limits
returns-in-Ok-clause-limits c = IfErr-weaker c.planned_for.result _ _ (λ refusal memory. subst TellsNoLimit (sym memory) tt) c.planned_for.ensures.refused

pub returns-in-Ok-clause-device : goal.returns-in-Ok-clause-device
returns-in-Ok-clause-device c = IfErr-weaker c.planned_for.result _ _ (λ refusal memory e. absurd (cc (e, memory))) c.planned_for.ensures.refused

pub returns-in-Err-clause-refused : goal.returns-in-Err-clause-refused
returns-in-Err-clause-refused c = λ reading k of made agree entries.
    let d = c.args.delete.now in
    let whole = rows_of (entries_of (get k d.table)) in
    let table = table_of c.in-Some.field-0.now whole in
    let there = table_read k c.args.schema.now d.table c.in-Some.field-0.now whole of c.in-Some.ensures.there c.in-Some.ensures.named refl in
    let passing = c.as_slice.ensures ∙ entries.are.rows ∙ rows-filtered entries.test (entries_of (get k d.table)) in
    let given = (c.in-Err.ensures.gives (rows_in (database_of k)) table d entries.test passing (entries.others (rows_lent c.args.lent.now.tables)) agree made).err in
    rw c.refusal_of_stop.ensures (deletion_stopped reading k d table there c.in-Err.stop given)

pub returns-in-Err-clause-device : goal.returns-in-Err-clause-device
returns-in-Err-clause-device c = rw c.refusal_of_stop.ensures (is_no_device c.in-Err.stop)

pub returns-in-Err-clause-limits : goal.returns-in-Err-clause-limits
returns-in-Err-clause-limits c = stop_tells c.in-Err.stop _ c.refusal_of_stop.ensures
