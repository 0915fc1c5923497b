use Rattle.std.proofs.Common.{◌∙◌}
use Rattle.std.proofs.lemmas.Result.{err_from_is_err_and}
use Rattle.typing.specs.Insert.{target_named}
use Rattle.type_rules.proofs.FindsLemmas.{Finds-each_item, each-finds, each-next}
use Rattle.change_types.proofs.targets.named_targets.Goals as goal

pub returns-in_err-target_named : goal.returns-in_err-target_named
returns-in_err-target_named c =
    let p = err_from_is_err_and c.from_residual.result c.from_residual.ensures.1 in
    rw (p.1, p.2) (Finds-each_item _ (target_named c.args.table.now.columns) c.args.names.now c.loop-name.name-index c.name-item.result c.loop-name-test.true c.name-item.is c.in_err-target_named.ensures)

pub loop-name-preserved : goal.loop-name-preserved
loop-name-preserved c =
    rw c.in_ok-push.ensures.ok
    (each-next (target_named c.args.table.now.columns) c.args.names.now c.loop-name.name-index c.name-item.result c.loop-name.targets c.in_ok-target_named.field-0 c.loop-name-test.true c.name-item.is c.in_ok-target_named.ensures.ok ∙ c.loop-name.invariant)

pub returns : goal.returns
returns c = each-finds (target_named c.args.table.now.columns) c.args.names.now c.loop-name.name-index c.loop-name.targets c.loop-name-test.false c.loop-name.invariant
