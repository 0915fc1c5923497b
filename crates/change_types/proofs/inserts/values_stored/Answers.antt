use Rattle.std.proofs.lemmas.Result.{err_from_is_err_and}
use Rattle.typing.specs.Known.{known}
use Rattle.change_types.proofs.Rows.{values-found, values-refused}
use Rattle.change_types.proofs.inserts.values_stored.Goals as goal

pub returns-in_err-targets : goal.returns-in_err-targets
returns-in_err-targets c = λ x h.
    let p = err_from_is_err_and c.from_residual.result c.from_residual.ensures.1 in
    rw (p.1, p.2) (values-refused (known c.args.schema.now) _ x c.args.values.now (rw c.in_err-targets.was at h))

pub returns : goal.returns
returns c = λ x h.
    rw (values-found (known c.args.schema.now) x c.in_ok-targets.targets c.args.values.now (rw c.in_ok-targets.was at h).ok)
    (c.of_values.ensures _ (rw c.as_slice.ensures at c.typed_rows-rows.ensures))
