use Rattle.std.proofs.Common.{◌∙◌}
use Rattle.std.proofs.lemmas.Result.{err_from_is_err_and}
use Rattle.typing.specs.Insert.{row_stored}
use Rattle.typing.specs.Known.{known}
use Rattle.type_rules.proofs.FindsLemmas.{Finds-each_item, each-finds, each-next}
use Rattle.change_types.proofs.inserts.typed_rows.Goals as goal

pub returns-in_err-typed_row : goal.returns-in_err-typed_row
returns-in_err-typed_row c =
    let p = err_from_is_err_and c.from_residual.result c.from_residual.ensures.1 in
    rw (p.1, p.2) (Finds-each_item _ (row_stored (known c.args.schema.now) c.args.targets.now) c.args.rows.now c.loop-row.row-index c.row-item.result c.loop-row-test.true c.row-item.is (rw c.as_slice.ensures at c.in_err-typed_row.ensures))

pub loop-row-preserved : goal.loop-row-preserved
loop-row-preserved c =
    rw c.in_ok-push.ensures.ok
    (each-next (row_stored (known c.args.schema.now) c.args.targets.now) c.args.rows.now c.loop-row.row-index c.row-item.result c.loop-row.typed c.in_ok-typed_row.field-0 c.loop-row-test.true c.row-item.is (rw c.as_slice.ensures at c.in_ok-typed_row.ensures.ok) ∙ c.loop-row.invariant)

pub returns : goal.returns
returns c = each-finds (row_stored (known c.args.schema.now) c.args.targets.now) c.args.rows.now c.loop-row.row-index c.loop-row.typed c.loop-row-test.false c.loop-row.invariant
