use Rattle.std.proofs.Common.{◌+◌, drop}
use Rattle.std.proofs.lemmas.Result.{err_from_is_err_and}
use Rattle.table_types.proofs.TypePairs.{pairs-next, pairs-refused}
use Rattle.table_types.proofs.references.types_match.Goals as goal

pub returns-in_err-left : goal.returns-in_err-left
returns-in_err-left c =
    let p = err_from_is_err_and c.from_residual.result c.from_residual.ensures.1 in
    rw (p.1, p.2) (pairs-refused c.args.columns.now c.args.others.now c.args.places.now c.loop-place.place-index c.loop-place-test.true _ _ _ c.loop-place.invariant
    (c.in_err-left.ensures.err (drop (c.loop-place.place-index + 1) c.args.places.now)))

pub loop-place-preserved : goal.loop-place-preserved
loop-place-preserved c =
    pairs-next c.args.columns.now c.args.others.now c.args.places.now c.loop-place.place-index c.loop-place-test.true _ _ _
    (c.in_ok-left.ensures.ok (drop (c.loop-place.place-index + 1) c.args.places.now)) c.loop-place.invariant
