use Rattle.std.proofs.Common.{◌∙◌}
use Rattle.std.proofs.lemmas.Result.{err_from_is_err_and}
use Rattle.std.specs.Option.{option_copied}
use Rattle.type_rules.proofs.Stars.{star-done, star-next, star-refused}
use Rattle.type_rules.proofs.selects.columns_of.Goals as goal

pub returns-in_err-shown_column : goal.returns-in_err-shown_column
returns-in_err-shown_column c =
    let p = err_from_is_err_and c.from_residual.result c.from_residual.ensures.1 in
    rw (p.1, p.2)
    (star-refused (option_copied c.args.key) c.args.offers.now c.loop-place.place c.index-offers-place.result c.loop-place-test.true c.index-offers-place.is _ c.loop-place.items _
    c.loop-place.invariant c.in_err-shown_column.ensures)

pub loop-place-preserved : goal.loop-place-preserved
loop-place-preserved c =
    rw c.in_ok-push.ensures.ok
    (star-next (option_copied c.args.key) c.args.offers.now c.loop-place.place c.index-offers-place.result c.loop-place-test.true c.index-offers-place.is c.loop-place.items _
    c.in_ok-shown_column.ensures.ok ∙ c.loop-place.invariant)

pub returns : goal.returns
returns c = star-done (option_copied c.args.key) c.args.offers.now c.loop-place.place c.loop-place.items _ c.loop-place-test.false c.loop-place.invariant
