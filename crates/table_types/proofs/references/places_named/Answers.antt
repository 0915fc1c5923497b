use Rattle.std.proofs.Common.{◌∙◌}
use Rattle.std.proofs.lemmas.Result.{err_from_is_err_and}
use Rattle.type_rules.proofs.FindsLemmas.{Finds-each_item, each-finds, each-next}
use Rattle.typing.specs.Known.{place_in}
use Rattle.typing.specs.Table.{as_found}
use Rattle.table_types.proofs.references.places_named.Goals as goal

pub returns-in_err-place_named : goal.returns-in_err-place_named
returns-in_err-place_named c =
    let p = err_from_is_err_and c.from_residual.result c.from_residual.ensures.1 in
    rw (p.1, p.2) (Finds-each_item _ (λ name. as_found (place_in c.args.columns.now name)) c.args.names.now c.loop-name.name-index c.name-item.result c.loop-name-test.true c.name-item.is (rw c.as_text.ensures.text at c.in_err-place_named.ensures))

pub loop-name-preserved : goal.loop-name-preserved
loop-name-preserved c =
    rw c.in_ok-push.ensures.ok
    (each-next (λ name. as_found (place_in c.args.columns.now name)) c.args.names.now c.loop-name.name-index c.name-item.result c.loop-name.places c.in_ok-place_named.field-0 c.loop-name-test.true c.name-item.is (rw c.as_text.ensures.text at c.in_ok-place_named.ensures.ok) ∙ c.loop-name.invariant)

pub returns : goal.returns
returns c = each-finds (λ name. as_found (place_in c.args.columns.now name)) c.args.names.now c.loop-name.name-index c.loop-name.places c.loop-name-test.false c.loop-name.invariant
