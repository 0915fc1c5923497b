use Rattle.std.proofs.Common.{◌∙◌}
use Rattle.std.proofs.lemmas.Result.{err_from_is_err_and}
use Rattle.typing.specs.Order.{key_found}
use Rattle.type_rules.proofs.FindsLemmas.{Finds-each_item, each-finds, each-next}
use Rattle.query_types.proofs.order.keys_found.Goals as goal

pub returns-in_err-key_found : goal.returns-in_err-key_found
returns-in_err-key_found c =
    let p = err_from_is_err_and c.from_residual.result c.from_residual.ensures.1 in
    rw (p.1, p.2) (Finds-each_item _ (key_found c.args.columns.now) c.args.order.now c.loop-key.key-index c.key-item.result c.loop-key-test.true c.key-item.is c.in_err-key_found.ensures)

pub loop-key-preserved : goal.loop-key-preserved
loop-key-preserved c =
    rw c.in_ok-push.ensures.ok
    (each-next (key_found c.args.columns.now) c.args.order.now c.loop-key.key-index c.key-item.result c.loop-key.keys c.in_ok-key_found.field-0 c.loop-key-test.true c.key-item.is c.in_ok-key_found.ensures.ok ∙ c.loop-key.invariant)

pub returns : goal.returns
returns c = each-finds (key_found c.args.columns.now) c.args.order.now c.loop-key.key-index c.loop-key.keys c.loop-key-test.false c.loop-key.invariant
