use Rattle.std.proofs.Common.{subst, List}
use Rattle.sqlval.specs.Value.{Row}
use Rattle.denote.specs.Database.{table_of}
use Rattle.update_delete.specs.declared.change.RowChange.{RowChange}
use Rattle.update_delete.specs.Kept.{Keeps, KeepsBy, KeepAll}
use Rattle.update_delete.proofs.Keeping.{keep-next, keep-none, keep-past}
use Rattle.update_delete.proofs.Standing.{none_left}
use Rattle.update_delete.proofs.harmless.are_harmless.Goals as goal

pub loop-row-init : goal.loop-row-init
loop-row-init g c = λ reading name whole decides keeps.
    let K = Keeps reading name (table_of c.args.table.now whole) c.args.table.now.constraints in
    subst (λ (changes : List RowChange). KeepAll K c.args.rows.now changes) c.as_slice-left.ensures
    (subst (λ (rows : List Row). KeepAll K rows c.as_slice-left.result.now) c.as_slice-row-items.ensures keeps)

pub loop-row-preserved : goal.loop-row-preserved
loop-row-preserved g c = λ reading name whole decides keeps.
    let K = Keeps reading name (table_of c.args.table.now whole) c.args.table.now.constraints in
    let rows = c.as_slice-row-items.result.now in
    let one : KeepsBy K c.row-item.result c.in-Some.change.now =
    subst (λ (row : Row). KeepsBy K row c.in-Some.change.now) c.as_slice.ensures (c.in-Ok-true.ensures.sure reading name whole decides c.in-Ok-true.field-0-test) in
    c.loop-row.invariant reading name whole decides
    (keep-next K rows c.loop-row.row-index c.row-item.result c.loop-row.left.now c.in-Some.others.now c.in-Some.change.now c.loop-row-test.true c.row-item.is c.in-Some.ensures.cases.0 one keeps)

pub returns-in_default-clause-sure : goal.returns-in_default-clause-sure
returns-in_default-clause-sure g c = λ reading name whole decides sure.
    let K = Keeps reading name (table_of c.args.table.now whole) c.args.table.now.constraints in
    c.loop-row.invariant reading name whole decides (keep-none K _ c.loop-row.left.now (none_left c.loop-row.left.now c.in_default.ensures.cases))

pub returns-clause-sure : goal.returns-clause-sure
returns-clause-sure g c = λ reading name whole decides sure.
    let K = Keeps reading name (table_of c.args.table.now whole) c.args.table.now.constraints in
    c.loop-row.invariant reading name whole decides (keep-past K c.as_slice-row-items.result.now c.loop-row.row-index c.loop-row.left.now c.loop-row-test.false)
