use Rattle.std.proofs.Common.{◌≡◌, ◌∙◌, arith}
use Rattle.std.proofs.lemmas.Result.{err_from_is_err_and}
use Rattle.typing.specs.Known.{known}
use Rattle.scopes.proofs.Scopes.{frames-outermost}
use Rattle.change_types.specs.Parts.{source_for}
use Rattle.change_types.proofs.Rows.{zip-item-at, zip-next-at}
use Rattle.change_types.proofs.inserts.typed_sources.Goals as goal

pub returns-in_err-stored : goal.returns-in_err-stored
returns-in_err-stored c =
    let p = err_from_is_err_and c.from_residual.result c.from_residual.ensures.1 in
    rw (p.1, p.2) (zip-item-at (source_for (known c.args.schema.now)) _ c.args.targets.now c.args.sources.now c.loop-at.at _ c.index-sources-at.result (omega (arith, c.loop-at-test.true, c.requires.same_length)) c.loop-at-test.true
    c.index-sources-at.is (c.in_err-stored.ensures _ (rw frames-outermost at c.typed_source-source.ensures)))

pub loop-at-preserved : goal.loop-at-preserved
loop-at-preserved c =
    rw c.in_ok-push.ensures.ok
    (zip-next-at (source_for (known c.args.schema.now)) c.args.targets.now c.args.sources.now c.loop-at.at _ c.index-sources-at.result c.loop-at.row c.in_ok-stored.field-0
    (omega (arith, c.loop-at-test.true, c.requires.same_length)) c.loop-at-test.true c.index-sources-at.is (c.in_ok-stored.ensures _ (rw frames-outermost at c.typed_source-source.ensures)).ok ∙ c.loop-at.invariant)
